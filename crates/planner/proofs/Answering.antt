-- The answers of the planner's calls on an admitted table: which the contracts allow, outcome by outcome. `r` is the refusal given.
use mathlib.Core.Path.{◌≡◌, refl, ap, ◌∙◌, subst, fun_ext}
use mathlib.Core.List.{List, []}
use Prim.Native.Nat.{ℕ, ◌+◌}
use native.Mathlib.Nat.{le_refl}
use native.Mathlib.Numerals.{add-one}
use native.Mathlib.Omega.{arith}
use lib.IntN.{ℤ}
use lib.ListN.{length, replicate}
use Rattle.numbers.specs.Lists.{at}
use Rattle.numbers.proofs.Lists.{zeros_at}
use Rattle.rules.specs.Bounds.{max_rows}
use Rattle.rules.specs.Bus.{Table}
use Rattle.rules.specs.Loads.{end, intervals}
use Rattle.rules.specs.Planner.{reached, Step}
use Rattle.rules.specs.Refusals.{Answers, plan_checks, step_checks, standings_checks}
use Rattle.rules.specs.Calls.{Ask, admitted}
use Rattle.std.specs.Prelude.{Result, Ok, Err}
use Rattle.table.specs.Refusal.{number_of}
use Rattle.table.specs.declared.refusals.Refusal.{Refusal}
use Rattle.table.proofs.Reasons.{not_done}
use Rattle.time.specs.Time.{Begins}
use Rattle.verdict.specs.declared.Analysis.{Analysis}
use Rattle.verdict.specs.Analysed.{Accepted}
use Rattle.interval.proofs.Moved.{step_of_moved}
use Rattle.planner.specs.Step.{Stands}
use Rattle.planner.proofs.InStep.{standings_are}
use Rattle.planner.specs.declared.Stage.TheVariants.{Due}
use Rattle.planner.specs.declared.Planner.{Planner}
use Rattle.planner.specs.State.{stage_of, planner_of, stage_after}
use Rattle.planner.specs.Course.{Course, Coursed}
use Rattle.planner.specs.Answers.{StepAnswer, StandingsAnswer, PlanAnswer}
use Rattle.planner.proofs.CourseNumbers.{hyper_is}
use Rattle.planner.proofs.Accepted.{shown, next_is}
use Rattle.planner.proofs.Walked.{course_one, course_run}

-- ---- refusals, of any ask

module _ (a : Ask) (r : Refusal) where
  pub standings_refusal : (p : Planner) → Answers (standings_checks a.checks a.table (planner_of p)) (number_of r.reason) r.place
      → StandingsAnswer a p (Err r)
  standings_refusal p c = record {
    stood = record { answers = c; done = λ z. absurd (not_done r.reason z); refused = λ h i l. refl };
    size = tt;
  }

  pub step_refusal : (p : Planner) (was : List ℕ) → length p.totals ≡ max_rows
      → Answers (step_checks a.checks a.table (planner_of p) (length was)) (number_of r.reason) r.place → StepAnswer a p (Err r) was was
  step_refusal p was size c = record {
    stepped = record { answers = c; done = λ z. absurd (not_done r.reason z); refused = λ h. (refl, refl) };
    size = size;
  }

  pub plan_refusal : (was : List ℕ) → Answers (plan_checks a.checks a.table (length was)) (number_of r.reason) r.place
      → PlanAnswer a (Err r) was was
  plan_refusal was c = record {
    planned = record { answers = c; done = λ z. absurd (not_done r.reason z); refused = λ h. refl };
  }

-- ---- calls that are done

module _ {t : Table} {a : Analysis} (A : Accepted t a) where
  pub standings_answer : (p : Planner) (s : ℕ) → s ≡ reached t (stage_of p.stage) → (xs : List ℤ)
      → Answers (standings_checks [] t (planner_of p)) 0 0
      → Stands a.outline.rows a.outline.time.hyper s (at a.rate) (at p.totals) xs
      → StandingsAnswer (admitted t) p (Ok xs)
  standings_answer p s here xs c S = record {
    stood = record {
      answers = c;
      done = λ z. standings_are (shown A) (planner_of p) here xs S;
      refused = λ h. absurd (h refl);
    };
    size = S.size;
  }

  module _ (p : Planner) (k : ℕ) (is_due : p.stage ≡ Due k) {s : ℕ} (B : Begins t k s) (e : ℕ) (ends : e ≡ end t k) (now was out : List ℕ)
      (C : Coursed t k (k + 1) p.totals now was out) where
    abbrev moved_on : Planner
    moved_on = record { stage = stage_after e a.outline.time.hyper (k + 1); totals = now }

    step : Step t (planner_of p) (planner_of moved_on) C.words
    step =
        step_of_moved (ap stage_of is_due) (next_is A.admissible.sound k e a.outline.time.hyper B.in_range ends (hyper_is A))
        (course_one C.course (add-one k))

    pub step_answer : Answers (step_checks [] t (planner_of p) (length was)) 0 0
        → StepAnswer (admitted t) p (Ok moved_on) was out
    step_answer c = record {
      stepped = record {
        answers = c;
        done = λ z. (C.words, step, C.written);
        refused = λ h. absurd (h refl);
      };
      size = C.size;
    }

  pub plan_answer : (was had now out : List ℕ) → had ≡ replicate max_rows 0 → Coursed t 0 (intervals t) had now was out
      → Answers (plan_checks [] t (length was)) 0 0 → PlanAnswer (admitted t) (Ok tt) was out
  plan_answer was had now out none C c =
      let z : at had ≡ (λ i. 0) = ap at none ∙ fun_ext (zeros_at max_rows) in
      let run = course_run A.admissible
      (subst (λ (g : ℕ → ℕ). Course t 0 g (intervals t) (at now) C.words) z C.course) (le_refl (intervals t)) in
      record {
        planned = record {
          answers = c;
          done = λ z. (C.words, (_, run), C.written);
          refused = λ h. absurd (h refl);
        };
      }
