-- Loads on each of two rings by itself.
--
--   on_ring d upper f i        f i where row i is of ring d, else 0; the rows of ring 1 are those of the word `upper`
--   OnEach n K a b h upper f x   loads x of parts f qualify on each ring, for n rows and the K sets of the folded line
--   ring_count upper           on how many rings there are rows to choose from: where none is in `upper`, on one
--   Chosen n K a b h upper f d rounded
--                             `rounded` are the rows to round up on the first d rings: their loads are the greatest of those that qualify
use Rattle.std.specs.Prelude.{◌≡◌, cond, ℕ, ◌<◌, eqb}
use Rattle.numbers.specs.Finite.{only}
use Rattle.rules.specs.Bounds.{max_rings}
use Rattle.rules.specs.Interval.{Greatest}
use Rattle.loads.specs.Loads.{digit, none, Qualified}

abbrev pub on_ring : (d upper : ℕ) → (ℕ → ℕ) → ℕ → ℕ
on_ring d upper f i = only (eqb (digit upper i) d) (f i)

abbrev pub OnEach : (n K : ℕ) (a b : ℕ → ℕ) (h upper : ℕ) (f x : ℕ → ℕ) → Type 0
OnEach n K a b h upper f x = (d : ℕ) → d < max_rings → Qualified n K a b h (on_ring d upper f) none (on_ring d upper x)

abbrev pub ring_count : ℕ → ℕ
ring_count upper = cond (eqb upper 0) 1 max_rings

pub record Chosen (n K : ℕ) (a b : ℕ → ℕ) (h upper : ℕ) (f : ℕ → ℕ) (d rounded : ℕ) : Type 0 where
  pub nothing : d ≡ 0 → rounded ≡ 0
  pub one : d ≡ 1 → Greatest n (Qualified n K a b h (on_ring 0 upper f) none) (digit rounded)
  pub both : d ≡ 2 → Greatest n (OnEach n K a b h upper f) (digit rounded)
