-- Intervals that can be planned: the one due, and all.
use mathlib.Core.Path.{◌≡◌, refl, sym, ap, ◌∙◌}
use Prim.Native.Nat.{ℕ, ◌+◌, ◌-◌, ◌≤◌}
use native.Mathlib.Nat.{le_refl}
use native.Mathlib.Omega.{arith}
use lib.ListN.{length, replicate}
use Rattle.numbers.specs.Lists.{at}
use Rattle.numbers.proofs.Lists.{zeros_at}
use Rattle.rules.specs.Bounds.{max_rows}
use Rattle.rules.specs.Bus.{Table}
use Rattle.rules.specs.Loads.{end, intervals}
use Rattle.rules.specs.Planner.{Off}
use Rattle.lags.proofs.Intervals.{start_first, start_last, end_next, end_far}
use Rattle.lags.proofs.Lags.{steady_eq, steady_fresh}
use Rattle.lags.proofs.States.{not_off}
use Rattle.time.specs.Time.{Begins}
use Rattle.verdict.specs.declared.Analysis.{Analysis}
use Rattle.verdict.specs.Analysed.{Accepted}
use Rattle.planner.specs.Plannable.{Plannable}
use Rattle.planner.proofs.CourseNumbers.{hyper_is}
use Rattle.planner.specs.declared.Stage.TheVariants.{Due}
use Rattle.planner.specs.declared.Planner.{Planner}
use Rattle.planner.specs.State.{stage_of, planner_of, slot_of}
use Rattle.planner.proofs.Off.{state_number, state_reached}

-- ---- what can be planned

module _ {t : Table} {a : Analysis} (A : Accepted t a) where
  -- the interval due, from a state that is not off
  module _ (p : Planner) (k : ℕ) {s : ℕ} (here : s ≡ slot_of t p.stage) (o : ¬ Off t (planner_of p)) (e : p.stage ≡ Due k) where
    pub due_begins : Begins t k s
    due_begins = record {
      in_range = state_number A p here o k (ap stage_of e);
      here = rw e at (state_reached A p here o);
    }

    pub due_length : (u : ℕ) → u ≡ end t k → s ≤ u
    due_length u ends = omega (arith, ends, due_begins.here, end_far A.admissible.sound k due_begins.in_range)

    pub due_plannable : length p.totals ≡ max_rows → (u room : ℕ) → u ≡ end t k → u - s ≤ room
        → Plannable t a k (k + 1) s u p.totals room
    due_plannable size u room ends l = record {
      accepted = A;
      totals = size;
      order = omega arith;
      in_range = omega (arith, due_begins.in_range);
      from = due_begins.here;
      until = ends ∙ end_next A.admissible.sound k;
      steady = rw (state_reached A p here o) (not_off.0 o).steady;
      roomy = omega (arith, l, due_length u ends);
    }

  -- all intervals, from the fresh state
  pub whole_plannable : (room : ℕ) → a.outline.time.hyper ≤ room
      → Plannable t a 0 (intervals t) 0 a.outline.time.hyper (replicate max_rows 0) room
  whole_plannable room l =
      let S = A.admissible.sound in
      record {
        accepted = A;
        totals = refl;
        order = omega arith;
        in_range = le_refl (intervals t);
        from = sym (start_first S);
        until = hyper_is A ∙ sym (start_last S);
        steady =
            steady_eq t 0 (λ i. 0) (at (replicate max_rows 0)) (λ i h. sym (zeros_at max_rows i)) (steady_fresh A.admissible);
        roomy = omega arith;
      }
