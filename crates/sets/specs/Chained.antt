-- The rows of a table, chained by the element at which they start: what `chain` gives.
--
--   all_heads                    how many heads there are: one for each place of an array by element
--   Link n first e i r           r is 1 + the lowest row from i on that starts at element e, 0 where none does
--   ChainedFrom n first i head next
--                                the rows from i on are chained: head links to the lowest of them at each element, next links on from each
--   Chained n first head next    all rows are chained
--   ChainedRows n first second top head next
--                                n rows on a line of the elements 1 to top, chained
--
-- Only one head and one next fit (proofs/Chained).
use Rattle.std.specs.Prelude.{◌≡◌, List, ℕ, ◌+◌, ◌-◌, ◌≤◌, ◌<◌, length}
use Rattle.numbers.specs.Lists.{at}
use Rattle.rules.specs.Bounds.{max_rows}
use Rattle.sets.specs.Walk.{line_size}

abbrev pub all_heads : ℕ
all_heads = line_size

pub record Link (n : ℕ) (first : ℕ → ℕ) (e i r : ℕ) : Type 0 where
  pub starts : 0 < r → (i < r) × (r ≤ n) × (first (r - 1) ≡ e)
  pub lowest : (j : ℕ) → i ≤ j → j < n → first j ≡ e → (0 < r) × (r ≤ j + 1)

pub record ChainedFrom (n : ℕ) (first : ℕ → ℕ) (i : ℕ) (head next : List ℕ) : Type 0 where
  pub head_size : length head ≡ all_heads
  pub next_size : length next ≡ max_rows
  pub heads : (e : ℕ) → e < all_heads → Link n first e i (at head e)
  pub nexts : (j : ℕ) → i ≤ j → j < n → Link n first (first j) (j + 1) (at next j)
  pub spare : (j : ℕ) → n ≤ j → at next j ≡ 0

abbrev pub Chained : (n : ℕ) → (ℕ → ℕ) → List ℕ → List ℕ → Type 0
Chained n first head next = ChainedFrom n first 0 head next

pub record ChainedRows (n : ℕ) (first second : ℕ → ℕ) (top : ℕ) (head next : List ℕ) : Type 0 where
  pub few : n ≤ max_rows
  pub low : top < all_heads
  pub line : (i : ℕ) → i < n → (1 ≤ first i) × (first i < second i) × (second i ≤ top)
  pub chained : Chained n first head next
