-- Interval numbers that are too large, and states that are off on an admitted table.
use mathlib.Core.Path.{◌≡◌, refl, sym, ap, ◌∙◌}
use mathlib.Core.Logic.{⊎_elim}
use mathlib.Core.Bool.{Bool, true, false, not}
use Prim.Native.Nat.{ℕ, ◌≤◌, ◌<◌}
use native.Mathlib.Omega.{arith}
use borrow.Author.Tests.{eqb-true, eq-eqb}
use Rattle.numbers.specs.Lists.{at}
use Rattle.numbers.specs.Decides.{Decides}
use Rattle.numbers.proofs.Truth.{of_true, of_false, le_or_lt, decides_no, decides_yes}
use Rattle.rules.specs.Bus.{Table}
use Rattle.rules.specs.Loads.{intervals}
use Rattle.rules.specs.Planner.{due, reached, Off}
use Rattle.lags.proofs.Intervals.{start_late, late_start}
use Rattle.lags.proofs.States.{not_off}
use Rattle.verdict.specs.declared.Analysis.{Analysis}
use Rattle.verdict.specs.Analysed.{Accepted}
use Rattle.planner.specs.Step.{Bounded, RowsKeep, KeepsStep, SpareClear}
use Rattle.planner.proofs.InStep.{bounded, reached_le, steady_is, not_off_of, off_spare, off_step}
use Rattle.planner.specs.declared.Stage.{Stage}
use Rattle.planner.specs.declared.Stage.TheVariants.{Due, Finished}
use Rattle.planner.specs.declared.Planner.{Planner}
use Rattle.planner.specs.State.{stage_of, planner_of, slot_of, late_at}
use Rattle.planner.proofs.CourseNumbers.{hyper_is}
use Rattle.planner.proofs.Accepted.{shown, slot_is}

module _ {t : Table} {a : Analysis} (A : Accepted t a) (p : Planner) {s : ℕ} (here : s ≡ slot_of t p.stage) where
  abbrev rows : ℕ
  rows = a.outline.rows

  abbrev hyper : ℕ
  hyper = a.outline.time.hyper

  -- ---- numbers that are too large

  pub off_late : late_at p.stage s hyper ≡ true → Off t (planner_of p)
  off_late l = go p.stage refl here l
    where
      go : (u : Stage) → u ≡ p.stage → s ≡ slot_of t u → late_at u s hyper ≡ true → Off t (planner_of p)
      go (Due k) e q l =
          Off.late k (ap stage_of (sym e)) (late_start A.admissible.sound k (sym q ∙ eqb-true s hyper l ∙ hyper_is A))
      go Finished e q l = absurd (of_true l)

  module _ (l : late_at p.stage s hyper ≡ false) where
    number_in : (k : ℕ) → stage_of p.stage ≡ due k → k < intervals t
    number_in = go p.stage here l
      where
        go : (u : Stage) → s ≡ slot_of t u → late_at u s hyper ≡ false → (k : ℕ) → stage_of u ≡ due k → k < intervals t
        go (Due m) q l k e =
            let z : m ≡ k = cc in
            ⊎_elim
            (λ (g : intervals t ≤ m).
            let h = eq-eqb s hyper (q ∙ start_late A.admissible.sound m g ∙ sym (hyper_is A)) in
            absurd (of_false l (of_true h)))
            (λ (g : m < intervals t). omega arith)
            (le_or_lt (intervals t) m)
        go Finished q l k e = absurd (let z : ◌≡◌ {A = ℕ} 0 1 = cc in omega arith)

    -- ---- the tests of the totals

    reached_is : s ≡ reached t (stage_of p.stage)
    reached_is = here ∙ slot_is A.admissible.sound p.stage number_in

    pub state_bounded : Bounded rows hyper s (at a.rate)
    state_bounded =
        bounded (shown A) A.admissible.sound A.admissible.short s
        (rw reached_is (reached_le A.admissible.sound (stage_of p.stage) number_in))

    -- the last test decides
    pub off_decided : SpareClear rows (at p.totals) → (b : Bool)
        → Decides (KeepsStep rows hyper s (at a.rate) a.outline.sets (at a.outline.words) (at p.totals)) b
        → Decides (Off t (planner_of p)) (not b)
    off_decided c true D = decides_no (not_off.1 (not_off_of (shown A) (planner_of p) reached_is number_in c (D.holds refl)))
    off_decided c false D = decides_yes (off_step (shown A) (planner_of p) reached_is (D.fails refl))

  pub off_spare_total : ¬ SpareClear rows (at p.totals) → Off t (planner_of p)
  off_spare_total = off_spare (shown A) (planner_of p)

  -- ---- states that are not off

  module _ (o : ¬ Off t (planner_of p)) where
    pub state_number : (k : ℕ) → stage_of p.stage ≡ due k → k < intervals t
    state_number k e = (not_off.0 o).number k e

    pub state_reached : s ≡ reached t (stage_of p.stage)
    state_reached = here ∙ slot_is A.admissible.sound p.stage state_number

    pub still_bounded : Bounded rows hyper s (at a.rate)
    still_bounded =
        bounded (shown A) A.admissible.sound A.admissible.short s
        (rw state_reached (reached_le A.admissible.sound (stage_of p.stage) state_number))

    pub state_keeps : RowsKeep rows hyper s (at a.rate) (at p.totals)
    state_keeps = ((steady_is (shown A) s (at p.totals)).1 (rw state_reached (not_off.0 o).steady)).rows
