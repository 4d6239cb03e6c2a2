-- Rows rounded up one after the other: each where all its sets have room left. Only the sets' upper bounds are looked at.
--
--   Lifted x x' from to v          v more on the numbers from one up to another
--   Lowered x x' from to v         v less on them, and 0 where they have less
--   Open left from to r            r says whether the sets from one up to another have room left
--   Uneven n f w                   the word w has the rows with a part
--   Fits n K a b h f z             loads z are the parts f rounded, and no set's sum is above its parts rounded up
--   Taken n K m a b h f top left   the rows below m have been taken: no loads that fit are greater. The others are rounded down, and `left`
--                                  is what is left of the sets
use Rattle.std.specs.Prelude.{◌≡◌, Bool, true, false, ◌&&◌, ℕ, ◌+◌, ◌-◌, ◌*◌, ◌≤◌, ◌<◌, ltb}
use Rattle.numbers.specs.Finite.{sum_in}
use Rattle.numbers.specs.Rounding.{Rounded}
use Rattle.numbers.specs.Word.{bit}
use Rattle.loads.specs.Loads.{in_set, digit}

pub record Lifted (x x' : ℕ → ℕ) (from to v : ℕ) : Type 0 where
  pub inside : (k : ℕ) → from ≤ k → k < to → x' k ≡ x k + v
  pub below : (k : ℕ) → k < from → x' k ≡ x k
  pub beyond : (k : ℕ) → to ≤ k → x' k ≡ x k

pub record Lowered (x x' : ℕ → ℕ) (from to v : ℕ) : Type 0 where
  pub inside : (k : ℕ) → from ≤ k → k < to → x' k ≡ x k - v
  pub below : (k : ℕ) → k < from → x' k ≡ x k
  pub beyond : (k : ℕ) → to ≤ k → x' k ≡ x k

pub record Open (left : ℕ → ℕ) (from to : ℕ) (r : Bool) : Type 0 where
  pub goes : r ≡ true → (k : ℕ) → from ≤ k → k < to → 0 < left k
  pub stays : r ≡ false → (k : ℕ) × (from ≤ k) × (k < to) × (left k ≡ 0)

abbrev pub Uneven : (n : ℕ) (f : ℕ → ℕ) (w : ℕ) → Type 0
Uneven n f w = (i : ℕ) → bit w i ≡ (ltb i n && ltb 0 (f i))

pub record Fits (n K : ℕ) (a b : ℕ → ℕ) (h : ℕ) (f z : ℕ → ℕ) : Type 0 where
  pub rows : (i : ℕ) → i < n → Rounded (z i) (f i) h
  pub sets : (k : ℕ) → k < K → sum_in n (in_set a b k) z * h < sum_in n (in_set a b k) f + h

pub record Taken (n K m : ℕ) (a b : ℕ → ℕ) (h : ℕ) (f : ℕ → ℕ) (top : ℕ) (left : ℕ → ℕ) : Type 0 where
  pub sets : (k : ℕ) → k < K → left k ≡ sum_in n (in_set a b k) f - sum_in n (in_set a b k) (digit top) * h
  pub fits : Fits n K a b h f (digit top)
  pub rest : (i : ℕ) → m ≤ i → bit top i ≡ false
  pub best : (z : ℕ → ℕ) → Fits n K a b h f z → (i : ℕ) → i < m → ((j : ℕ) → j < i → z j ≡ digit top j) → z i ≤ digit top i
