-- Only one answer fits each call of the planner.
use mathlib.Core.Path.{◌≡◌, refl, sym, ap, ◌∙◌}
use mathlib.Core.Logic.{⊎_elim}
use mathlib.Core.List.{List}
use Prim.Native.Nat.{ℕ, ◌<◌}
use native.Mathlib.Omega.{arith}
use lib.IntN.{ℤ, pos}
use lib.ListN.{length, get_or}
use lib.Seq.{ext_get_or}
use Rattle.std.specs.Prelude.{Result, Ok, Err}
use Rattle.numbers.proofs.Truth.{le_or_lt}
use Rattle.rules.specs.Calls.{lent}
use Rattle.rules.specs.Refusals.{Check, Answers, plan_checks, step_checks, standings_checks}
use Rattle.rules.proofs.Answers.{answers_only}
use Rattle.rules.proofs.Plans as plans
use Rattle.table.specs.Refusal.{number_of}
use Rattle.table.specs.declared.refusals.Refusal.{Refusal}
use Rattle.table.proofs.Reasons.{not_done, refused_not, same_refusal}
use Rattle.planner.specs.State.{planner_of}
use Rattle.planner.specs.Promises.{OneStep, OnePlan, OneStandings}
use Rattle.planner.proofs.State.{state_same}

pub step_only : OneStep
step_only a p (Ok q) (Ok u) was now then A B =
    let x = A.stepped.done refl in
    let y = B.stepped.done refl in
    let e = plans.step_only x.1 y.1 in
    (ap Ok (state_same q u (A.size ∙ sym B.size) e.0), x.2 ∙ ap (λ (ws : List ℕ). lent ws was) e.1 ∙ sym y.2)
step_only a p (Ok q) (Err e) was now then A B =
    refused_not (step_checks a.checks a.table (planner_of p) (length was)) e A.stepped.answers B.stepped.answers
step_only a p (Err e) (Ok u) was now then A B =
    refused_not (step_checks a.checks a.table (planner_of p) (length was)) e B.stepped.answers A.stepped.answers
step_only a p (Err e) (Err g) was now then A B = (
  same_refusal (step_checks a.checks a.table (planner_of p) (length was)) e g A.stepped.answers B.stepped.answers,
  (A.stepped.refused (not_done e.reason)).1 ∙ sym (B.stepped.refused (not_done g.reason)).1,
)

pub plan_only : OnePlan
plan_only a (Ok _) (Ok _) was now then A B =
    let x = A.planned.done refl in
    let y = B.planned.done refl in
    (refl, x.2 ∙ ap (λ (ws : List ℕ). lent ws was) (plans.plan_only a.table x.0 y.0 x.1 y.1) ∙ sym y.2)
plan_only a (Ok _) (Err e) was now then A B =
    refused_not (plan_checks a.checks a.table (length was)) e A.planned.answers B.planned.answers
plan_only a (Err e) (Ok _) was now then A B =
    refused_not (plan_checks a.checks a.table (length was)) e B.planned.answers A.planned.answers
plan_only a (Err e) (Err g) was now then A B = (
  same_refusal (plan_checks a.checks a.table (length was)) e g A.planned.answers B.planned.answers,
  A.planned.refused (not_done e.reason) ∙ sym (B.planned.refused (not_done g.reason)),
)

pub standings_only : OneStandings
standings_only a p (Ok xs) (Ok ys) A B =
    ap Ok
    (ext_get_or (pos 0) xs ys (A.size ∙ sym B.size)
    (λ i l.
    let x = A.stood.done refl in
    let y = B.stood.done refl in
    ⊎_elim
    (λ h. x.1 i h (omega (arith, A.size)) ∙ sym (y.1 i h (omega (arith, A.size))))
    (λ h. x.0 i h ∙ sym (y.0 i h))
    (le_or_lt a.table.rows i)))
standings_only a p (Ok xs) (Err e) A B =
    refused_not (standings_checks a.checks a.table (planner_of p)) e A.stood.answers B.stood.answers
standings_only a p (Err e) (Ok ys) A B =
    refused_not (standings_checks a.checks a.table (planner_of p)) e B.stood.answers A.stood.answers
standings_only a p (Err e) (Err g) A B =
    same_refusal (standings_checks a.checks a.table (planner_of p)) e g A.stood.answers B.stood.answers
