-- Document 01, "Loads of one interval, and its slots".
--
--   lag t k had i        row i's lag for interval k, where it has had `had i` slots already, in units of 1 / h; it can be below zero
--   ByLags t k had x     x are loads that qualify for interval k, said of lags
--   Qualify t k had x    x are loads that qualify for interval k, said of slots had and shares
--   Greatest n Q x       of all loads of n rows that meet Q, x are those in which row 0's is greatest, among those row 1's, and so on
--   before f j i         row j is taken before row i: by ascending first end on the line, equal ones by row number
--   hinders o f j i      row j is taken before row i and overlaps it
--   free n o f P i s     slot s is free for row i: no earlier row that overlaps it has s
--   moves ws i s         row i moves in slot s of the words
--   taken n o f x P i s  row i takes slot s: it is free for it, and fewer free slots than its load came before
--   Earliest n o f x l P each row has the earliest of the interval's l slots that are free for it, up to its load
--   SlotWords n o f x l ws   ws are the words of an interval of l slots for loads x
--
-- Loads and totals are whole numbers of slots by row. P i s says that row i has slot s of the interval.
use Rattle.std.specs.Prelude.{◌≡◌, List, Bool, not, ◌&&◌, ◌||◌, ◌↔◌, ℕ, ◌+◌, ◌-◌, ◌*◌, ◌≤◌, ◌<◌, T, ltb, eqb, ℤ, pos, ◌-ℤ◌, length}
use Rattle.numbers.specs.Finite.{any, sum_in, count}
use Rattle.numbers.specs.Word.{bit}
use Rattle.numbers.specs.Lists.{at}
use Rattle.numbers.specs.Rounding.{Rounded}
use Rattle.numbers.specs.Signed.{sum_inℤ, Roundedℤ}
use Rattle.rules.specs.Bus.{Table, overlap}
use Rattle.rules.specs.Line.{OverlapSet}
use Rattle.rules.specs.Loads.{hyperperiod, start, end, share}

-- The lag of a row is its share at the interval's end less the slots it has already had.
unfoldable pub lag : Table → ℕ → (had : ℕ → ℕ) → ℕ → ℤ
lag t k had i = pos (share t i (end t k)) -ℤ pos (had i * hyperperiod t)

-- A row's load is its lag rounded down or up, a set's sum of loads is its summed lag rounded down or up, and never above the interval.
pub record ByLags (t : Table) (k : ℕ) (had x : ℕ → ℕ) : Type 0 where
  pub rows : (i : ℕ) → i < t.rows → Roundedℤ (x i) (lag t k had i) (hyperperiod t)
  pub sets : (D : ℕ → Bool) → OverlapSet t.rows (overlap t) D
      → Roundedℤ (sum_in t.rows D x) (sum_inℤ t.rows D (lag t k had)) (hyperperiod t)
  pub fits : (D : ℕ → Bool) → OverlapSet t.rows (overlap t) D → sum_in t.rows D x ≤ end t k - start t k

-- As the slots already had are whole, a load is the lag rounded down or up just when slots had and load come to the share at the interval's
-- end rounded down or up; and so for the summed lag of a set. So nothing is subtracted here, and it is proved to be the same.
pub record Qualify (t : Table) (k : ℕ) (had x : ℕ → ℕ) : Type 0 where
  pub rows : (i : ℕ) → i < t.rows → Rounded (had i + x i) (share t i (end t k)) (hyperperiod t)
  pub sets : (D : ℕ → Bool) → OverlapSet t.rows (overlap t) D
      → Rounded (sum_in t.rows D had + sum_in t.rows D x) (sum_in t.rows D (λ i. share t i (end t k))) (hyperperiod t)
  pub fits : (D : ℕ → Bool) → OverlapSet t.rows (overlap t) D → sum_in t.rows D x ≤ end t k - start t k

-- Both are the same (proofs/Lags.antt).
abbrev pub QualifyByLags : Type 0
QualifyByLags = (t : Table) (k : ℕ) (had x : ℕ → ℕ) → 0 < hyperperiod t → Qualify t k had x ↔ ByLags t k had x

-- Document 02, #110: of all load sets that qualify, the one in which row 0's load is greatest, among those row 1's, and so on. Only one x
-- fits, on the n rows (proofs/Plans.antt).
pub record Greatest (n : ℕ) (Q : (ℕ → ℕ) → Type 0) (x : ℕ → ℕ) : Type 0 where
  pub qualify : Q x
  pub most : (z : ℕ → ℕ) → Q z → (i : ℕ) → i < n → ((j : ℕ) → j < i → z j ≡ x j) → z i ≤ x i

unfoldable pub before : (first : ℕ → ℕ) → ℕ → ℕ → Bool
before first j i = ltb (first j) (first i) || (eqb (first j) (first i) && ltb j i)

unfoldable pub hinders : (o : ℕ → ℕ → Bool) (first : ℕ → ℕ) → ℕ → ℕ → Bool
hinders o first j i = before first j i && o j i

unfoldable pub free : ℕ → (o : ℕ → ℕ → Bool) (first : ℕ → ℕ) → (ℕ → ℕ → Bool) → ℕ → ℕ → Bool
free n o first P i s = not (any n (λ j. hinders o first j i && P j s))

abbrev pub taken : ℕ → (o : ℕ → ℕ → Bool) (first x : ℕ → ℕ) → (ℕ → ℕ → Bool) → ℕ → ℕ → Bool
taken n o first x P i s = free n o first P i s && ltb (count s (free n o first P i)) (x i)

abbrev pub Earliest : ℕ → (o : ℕ → ℕ → Bool) (first x : ℕ → ℕ) → ℕ → (ℕ → ℕ → Bool) → Type 0
Earliest n o first x l P = (i s : ℕ) → i < n → s < l → P i s ≡ taken n o first x P i s

-- A slot is one word, bit i set if row i moves.
abbrev pub moves : List ℕ → ℕ → ℕ → Bool
moves ws i s = bit (at ws s) i

pub record SlotWords (n : ℕ) (o : ℕ → ℕ → Bool) (first x : ℕ → ℕ) (l : ℕ) (ws : List ℕ) : Type 0 where
  pub size : length ws ≡ l
  pub rows : (i s : ℕ) → T (moves ws i s) → i < n
  pub earliest : Earliest n o first x l (moves ws)
