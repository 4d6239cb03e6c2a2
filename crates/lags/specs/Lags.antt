-- What document 01's planner stands on: tables that are admitted, and slots had that keep step with the shares.
--
--   Admissible t       a sound table to which none of the refusals 10, 11, 13 and 14 applies
--   lag t k had i      row i's lag for interval k, where it has had `had i` slots already, in units of 1 / h
--   Steady t s had     at slot s each row, and each overlap set, has had its share rounded down or up
--   NotOff t p         the planner's state is not off, said without a negation
use Rattle.std.specs.Prelude.{◌≡◌, Bool, ℕ, ◌-◌, ◌*◌, ◌≤◌, ◌<◌, T}
use Rattle.numbers.specs.Finite.{sum_in}
use Rattle.numbers.specs.Rounding.{Rounded}
use Rattle.rules.specs.Bounds.{max_rows, max_slots}
use Rattle.rules.specs.Bus.{Table, overlap}
use Rattle.rules.specs.Line.{HasCuts, OverlapSet}
use Rattle.rules.specs.Loads.{hyperperiod, end, intervals, share, light, over}
use Rattle.rules.specs.Planner.{Planner, due, reached}
use Rattle.table.specs.Sound.{Sound}

pub record Admissible (t : Table) : Type 0 where
  pub sound : Sound t
  pub clear : HasCuts t
  pub short : hyperperiod t ≤ max_slots
  pub heavy : (i : ℕ) → i < t.rows → ¬ T (light t i)
  pub bounded : (D : ℕ → Bool) → OverlapSet t.rows (overlap t) D → ¬ T (over t D)

-- From a state that is not off it is never below zero, so nothing is cut off here.
unfoldable pub lag : Table → ℕ → (ℕ → ℕ) → ℕ → ℕ
lag t k had i = share t i (end t k) - had i * hyperperiod t

pub record Steady (t : Table) (s : ℕ) (had : ℕ → ℕ) : Type 0 where
  pub rows : (i : ℕ) → i < t.rows → Rounded (had i) (share t i s) (hyperperiod t)
  pub sets : (D : ℕ → Bool) → OverlapSet t.rows (overlap t) D
      → Rounded (sum_in t.rows D had) (sum_in t.rows D (λ i. share t i s)) (hyperperiod t)

pub record NotOff (t : Table) (p : Planner) : Type 0 where
  pub number : (k : ℕ) → p.stage ≡ due k → k < intervals t
  pub spare : (i : ℕ) → t.rows ≤ i → i < max_rows → p.totals i ≡ 0
  pub steady : Steady t (reached t p.stage) p.totals
