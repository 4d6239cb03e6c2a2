-- Whether a planner's state is off, by a test.
use mathlib.Core.Path.{◌≡◌, refl, subst}
use mathlib.Core.Logic.{◌⊎◌, inl, inr}
use mathlib.Core.Bool.{Bool, false}
use mathlib.Core.List.{List}
use Prim.Native.Nat.{ℕ, ◌≤◌, ◌<◌}
use native.Mathlib.Omega.{arith}
use lib.ListN.{length}
use Rattle.numbers.specs.Finite.{sum_in}
use Rattle.numbers.specs.Rounding.{Rounded}
use Rattle.numbers.proofs.Tests.{Test, le_test, eq_test, as_test, not_test, and_test, or_test, any_test}
use Rattle.rules.specs.Bounds.{max_rows}
use Rattle.rules.specs.Bus.{Table}
use Rattle.rules.specs.Line.{set_at, Sets}
use Rattle.rules.specs.Loads.{hyperperiod, intervals, share}
use Rattle.rules.specs.Planner.{Stage, due, finished, Planner, reached, Off}
use Rattle.rules.proofs.Sets.{set_in}
use Rattle.rules.proofs.Steps.{rounded_test}

late_test : (s : Stage) (n : ℕ) → Test ((k : ℕ) × (s ≡ due k) × (n ≤ k))
late_test (due k) n =
    as_test (le_test n k) (λ h. (k, refl, h)) (λ w. let e = w.1 in let z : k ≡ w.0 = cc in omega (arith, w.2))
late_test finished n = record { test = false; is = λ h. absurd h; of = λ w. let e = w.1 in let z : ◌≡◌ {A = ℕ} 0 1 = cc in omega arith }

module _ (t : Table) (p : Planner) where
  -- the slots that the rows of D have had are their share, rounded down or up
  abbrev Kept : (ℕ → Bool) → Type 0
  Kept D =
      Rounded (sum_in t.rows D p.totals) (sum_in t.rows D (λ i. share t i (reached t p.stage))) (hyperperiod t)

  abbrev Late : Type 0
  Late = (k : ℕ) × (p.stage ≡ due k) × (intervals t ≤ k)

  abbrev Spare : Type 0
  Spare = (i : ℕ) × (i < max_rows) × ((t.rows ≤ i) × (p.totals i ≡ 0 → ⊥))

  abbrev Row : Type 0
  Row = (i : ℕ) × (i < t.rows) × (Rounded (p.totals i) (share t i (reached t p.stage)) (hyperperiod t) → ⊥)

  abbrev Set : List ℕ → Type 0
  Set ws = (k : ℕ) × (k < length ws) × (Kept (set_at ws k) → ⊥)

  module _ (ws : List ℕ) (A : Sets t ws) where
    off_of : (Late ⊎ Spare) ⊎ (Row ⊎ Set ws) → Off t p
    off_of (inl (inl w)) = Off.late w.0 w.1 w.2
    off_of (inl (inr w)) = Off.spare w.0 w.2.0 w.1 w.2.1
    off_of (inr (inl w)) = Off.row w.0 w.1 w.2
    off_of (inr (inr w)) = Off.set (set_at ws w.0) (A.each w.0 w.1) w.2

    off_is : Off t p → (Late ⊎ Spare) ⊎ (Row ⊎ Set ws)
    off_is (Off.late k e l) = inl (inl (k, e, l))
    off_is (Off.spare i l m ne) = inl (inr (i, m, (l, ne)))
    off_is (Off.row i l ne) = inr (inl (i, l, ne))
    off_is (Off.set D o ne) =
        let r = set_in A o in
        inr (inr (r.0, r.1, λ w. ne (subst Kept r.2 w)))

    pub off_test : Test (Off t p)
    off_test =
        as_test (or_test
        (or_test (late_test p.stage (intervals t))
        (any_test max_rows (λ i. and_test (le_test t.rows i) (not_test (eq_test (p.totals i) 0)))))
        (or_test
        (any_test t.rows (λ i. not_test (rounded_test (p.totals i) (share t i (reached t p.stage)) (hyperperiod t))))
        (any_test (length ws) (λ k. not_test (rounded_test (sum_in t.rows (set_at ws k) p.totals)
        (sum_in t.rows (set_at ws k) (λ i. share t i (reached t p.stage))) (hyperperiod t))))))
        off_of off_is
