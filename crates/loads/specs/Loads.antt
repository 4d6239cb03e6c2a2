-- The loads of one interval, for n rows and K sets. Row i belongs to the consecutive sets a i, .., b i.
--
--   covers a b k            a row of the sets a, .., b belongs to set k
--   in_set a b k             the rows of set k
--   last head i             the last set of a row that ends at node head i, which is after it
--   digit w i               1 where row i is in the word w, else 0
--   among w f               f of the rows in the word w, 0 of the others
--   none                    no slots were had
--   share_most, part_most   no row's share, and no set's sum of parts, is above these, in units of 1 / h
--   Spans n K a b           n rows and K sets, few enough, and every row's sets are among them
--   Parts n h f             h is one that a table can have, and f are parts of a slot, in units of 1 / h
--   Summed n K a b f s      s are the sets' sums of f
--   Qualified               x are loads that qualify: with the slots already had, every row's and every set's sum is its share rounded
use Rattle.std.specs.Prelude.{◌≡◌, Bool, ◌&&◌, List, ℕ, ◌+◌, ◌-◌, ◌*◌, ◌≤◌, ◌<◌, leb}
use Rattle.numbers.specs.Finite.{sum_in, only}
use Rattle.numbers.specs.Lists.{at}
use Rattle.numbers.specs.Rounding.{Rounded}
use Rattle.numbers.specs.Word.{bit}
use Rattle.rules.specs.Bounds.{max_elements, max_rows, max_slots}

abbrev pub covers : ℕ → ℕ → ℕ → Bool
covers a b k = leb a k && leb k b

abbrev pub in_set : (a b : ℕ → ℕ) → ℕ → ℕ → Bool
in_set a b k i = covers (a i) (b i) k

abbrev pub last : List ℕ → ℕ → ℕ
last head i = at head i - 1

abbrev pub digit : ℕ → ℕ → ℕ
digit w i = only (bit w i) 1

abbrev pub among : ℕ → (ℕ → ℕ) → ℕ → ℕ
among w f i = only (bit w i) (f i)

abbrev pub none : ℕ → ℕ
none i = 0

-- A row's share is its part of at most max_slots slots, of at most max_slots units each.
abbrev pub share_most : ℕ
share_most = max_slots * max_slots

abbrev pub part_most : ℕ
part_most = max_rows * max_slots

pub record Spans (n K : ℕ) (a b : ℕ → ℕ) : Type 0 where
  pub few_rows : n ≤ max_rows
  pub few_sets : K ≤ max_elements
  pub row : (i : ℕ) → i < n → (a i ≤ b i) × (b i < K)

pub record Parts (n h : ℕ) (f : ℕ → ℕ) : Type 0 where
  pub some : 0 < h
  pub fits : h ≤ max_slots
  pub row : (i : ℕ) → i < n → f i < h

abbrev pub Summed : (n K : ℕ) (a b f s : ℕ → ℕ) → Type 0
Summed n K a b f s = (k : ℕ) → k < K → s k ≡ sum_in n (in_set a b k) f

pub record Qualified (n K : ℕ) (a b : ℕ → ℕ) (h : ℕ) (share had x : ℕ → ℕ) : Type 0 where
  pub rows : (i : ℕ) → i < n → Rounded (had i + x i) (share i) h
  pub sets : (k : ℕ) → k < K → Rounded (sum_in n (in_set a b k) had + sum_in n (in_set a b k) x) (sum_in n (in_set a b k) share) h
