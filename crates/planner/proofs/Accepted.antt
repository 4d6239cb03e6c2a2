-- An admitted table as the code holds it, and where a planner's stage stands in its time.
use mathlib.Core.Path.{◌≡◌, refl, sym, ◌∙◌}
use mathlib.Core.Logic.{⊎_elim}
use Prim.Native.Nat.{ℕ, ◌+◌, ◌<◌}
use native.Mathlib.Nat.{eq-or-lt_of_le, le_refl}
use native.Mathlib.Omega.{arith}
use borrow.Author.Tests.{eq-eqb, ne_eqb}
use Rattle.rules.specs.Bus.{Table}
use Rattle.rules.specs.Loads.{hyperperiod, end, intervals}
use Rattle.rules.specs.Planner.{due, next, reached}
use Rattle.lags.proofs.Intervals.{start_in, start_strict, start_last, end_next}
use Rattle.lags.proofs.States.{next_due, next_finished}
use Rattle.table.specs.Sound.{Sound}
use Rattle.verdict.specs.declared.Analysis.{Analysis}
use Rattle.verdict.specs.Analysed.{Accepted}
use Rattle.planner.proofs.CourseNumbers.{hyper_is, few_sets}
use Rattle.planner.proofs.InStep.{Shown}
use Rattle.planner.specs.declared.Stage.{Stage}
use Rattle.planner.specs.declared.Stage.TheVariants.{Due, Finished}
use Rattle.planner.specs.State.{stage_of, slot_of, stage_after}

module _ {t : Table} {a : Analysis} (A : Accepted t a) where
  pub shown : Shown t a.outline.rows a.outline.time.hyper a.rate a.outline.sets a.outline.words
  shown = record {
    rows = A.outline.rows;
    hyper = hyper_is A;
    by_row = A.rate;
    few = few_sets A;
    size = A.outline.size;
    list = A.outline.list;
  }

-- ---- stages

module _ {t : Table} (S : Sound t) where
  -- the slot reached, where the interval due is one of the table's
  pub slot_is : (s : Stage) → ((k : ℕ) → stage_of s ≡ due k → k < intervals t) → slot_of t s ≡ reached t (stage_of s)
  slot_is (Due k) l = start_in S k (l k refl)
  slot_is Finished l = refl

  -- an interval ends at h exactly if it is the last
  pub next_is : (k e h : ℕ) → k < intervals t → e ≡ end t k → h ≡ hyperperiod t → stage_of (stage_after e h (k + 1)) ≡ next t k
  next_is k e h l ends hyper =
      ⊎_elim
      (λ (q : k + 1 ≡ intervals t).
      let z : e ≡ h = ends ∙ end_next S k ∙ rw q (start_last S) ∙ sym hyper in
      rw (eq-eqb e h z) (sym (next_finished t k q)))
      (λ (q : k + 1 < intervals t).
      let far = start_strict S (k + 1) (intervals t) q (le_refl (intervals t)) in
      rw (ne_eqb e h (λ z. omega (arith, ends, hyper, far, end_next S k, start_last S))) (sym (next_due t k q)))
      (eq-or-lt_of_le (omega arith))
