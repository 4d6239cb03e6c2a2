-- The planner's answers to an ask, from those on an analysis that answers its checks; and that only one answer on an analysis fits.
use mathlib.Core.Path.{◌≡◌, sym, ◌∙◌}
use mathlib.Core.List.{List}
use Prim.Native.Nat.{ℕ}
use lib.IntN.{ℤ}
use lib.ListN.{length}
use Rattle.rules.specs.Bounds.{max_rows}
use Rattle.rules.specs.Planner.{Planner}
use Rattle.rules.specs.Refusals.{Answers, plan_checks, step_checks, standings_checks}
use Rattle.rules.specs.Calls.{Ask, admitted, Planned, Stepped, Stood}
use Rattle.rules.proofs.Answers.{None, Numbered, stopped, none_of}
use Rattle.rules.proofs.Calls.{call_after}
use Rattle.std.specs.Prelude.{Result, Ok, Err}
use Rattle.table.specs.Refusal.{number_of}
use Rattle.table.specs.declared.refusals.Refusal.{Refusal}
use Rattle.table.proofs.Reasons.{not_done}
use Rattle.verdict.specs.declared.Analysis.{Analysis}
use Rattle.verdict.specs.Analysed.{Analysed}
use Rattle.verdict.proofs.Bound.{verdict_numbered, admissible_of}
use Rattle.planner.specs.declared.Planner.{Planner as State}
use Rattle.planner.specs.State.{planner_of}
use Rattle.planner.specs.Answers.{StepAnswer, StandingsAnswer, PlanAnswer}
use Rattle.planner.specs.Analysed.{Usable, SteppedOn, StandingsOn, PlannedOn}
use Rattle.planner.specs.Promises.{FileProper}
use Rattle.planner.proofs.Answering.{standings_refusal, step_refusal, plan_refusal}
use Rattle.planner.proofs.Only.{step_only, plan_only, standings_only}

pub file_proper : FileProper
file_proper f = record { numbered = verdict_numbered f; admissible = admissible_of f }

-- ---- checks before a call's own

module _ (a : Ask) where
  module _ (none : None a.checks) where
    planned_after : {was now : List ℕ} {n q : ℕ} → Planned (admitted a.table) was now n q → Planned a was now n q
    unfolding plan_checks
    planned_after c = call_after a.checks _ none c

    stepped_after : {p q : Planner} {was now : List ℕ} {n m : ℕ} → Stepped (admitted a.table) p q was now n m → Stepped a p q was now n m
    unfolding step_checks
    stepped_after c = call_after a.checks _ none c

    stood_after : (p : Planner) {xs : ℕ → ℤ} {n q : ℕ} → Stood (admitted a.table) p xs n q → Stood a p xs n q
    unfolding standings_checks
    stood_after p c = call_after a.checks _ none c

  module _ (r : Refusal) (c : Answers a.checks (number_of r.reason) r.place) where
    plan_before : (room : ℕ) → Answers (plan_checks a.checks a.table room) (number_of r.reason) r.place
    unfolding plan_checks
    plan_before room = stopped a.checks _ (number_of r.reason) r.place (not_done r.reason) c

    step_before : (p : Planner) (room : ℕ) → Answers (step_checks a.checks a.table p room) (number_of r.reason) r.place
    unfolding step_checks
    step_before p room = stopped a.checks _ (number_of r.reason) r.place (not_done r.reason) c

    standings_before : (p : Planner) → Answers (standings_checks a.checks a.table p) (number_of r.reason) r.place
    unfolding standings_checks
    standings_before p = stopped a.checks _ (number_of r.reason) r.place (not_done r.reason) c

-- ---- from an analysis to its ask

pub usable : {a : Result Analysis Refusal} (q : Ask) → Analysed q.checks q.table a → Usable a
usable {a = Ok x} q A = (q.table, A.found)
usable {a = Err e} q A = tt

pub step_asked : (q : Ask) → Numbered q.checks → {a : Result Analysis Refusal} → Analysed q.checks q.table a → (p : State)
    (r : Result State Refusal) (was now : List ℕ) → length p.totals ≡ max_rows → SteppedOn a p r was now → StepAnswer q p r was now
step_asked q N {a = Ok x} A p r was now size O =
    let S = O.done q.table A.found in
    record { stepped = stepped_after q (none_of q.checks 0 N A.answers) S.stepped; size = S.size }
step_asked q N {a = Err e} A p r was now size O =
    let w = O.refused in
    rw (w.0, w.1) (step_refusal q e p was size (step_before q e A.answers _ (length was)))

pub standings_asked : (q : Ask) → Numbered q.checks → {a : Result Analysis Refusal} → Analysed q.checks q.table a → (p : State)
    (r : Result (List ℤ) Refusal) → StandingsOn a p r → StandingsAnswer q p r
standings_asked q N {a = Ok x} A p r O =
    let S = O.done q.table A.found in
    record { stood = stood_after q (none_of q.checks 0 N A.answers) (planner_of p) S.stood; size = S.size }
standings_asked q N {a = Err e} A p r O = rw O.refused (standings_refusal q e p (standings_before q e A.answers _))

pub plan_asked : (q : Ask) → Numbered q.checks → {a : Result Analysis Refusal} → Analysed q.checks q.table a
    → (r : Result Unit Refusal) (was now : List ℕ) → PlannedOn a r was now → PlanAnswer q r was now
plan_asked q N {a = Ok x} A r was now O =
    let S = O.done q.table A.found in
    record { planned = planned_after q (none_of q.checks 0 N A.answers) S.planned }
plan_asked q N {a = Err e} A r was now O =
    let w = O.refused in
    rw (w.0, w.1) (plan_refusal q e was (plan_before q e A.answers (length was)))

-- ---- only one answer on an analysis fits

pub stepped_on_only : {a : Result Analysis Refusal} → Usable a → (p : State) (r s : Result State Refusal) (was now then : List ℕ)
    → SteppedOn a p r was now → SteppedOn a p s was then → (r ≡ s) × (now ≡ then)
stepped_on_only {a = Ok x} U p r s was now then O Q =
    step_only (admitted U.0) p r s was now then (O.done U.0 U.1) (Q.done U.0 U.1)
stepped_on_only {a = Err e} U p r s was now then O Q =
    let x = O.refused in
    let y = Q.refused in
    (x.0 ∙ sym y.0, x.1 ∙ sym y.1)

pub standings_on_only : {a : Result Analysis Refusal} → Usable a → (p : State) (r s : Result (List ℤ) Refusal)
    → StandingsOn a p r → StandingsOn a p s → r ≡ s
standings_on_only {a = Ok x} U p r s O Q = standings_only (admitted U.0) p r s (O.done U.0 U.1) (Q.done U.0 U.1)
standings_on_only {a = Err e} U p r s O Q = O.refused ∙ sym Q.refused

pub planned_on_only : {a : Result Analysis Refusal} → Usable a → (r s : Result Unit Refusal) (was now then : List ℕ)
    → PlannedOn a r was now → PlannedOn a s was then → (r ≡ s) × (now ≡ then)
planned_on_only {a = Ok x} U r s was now then O Q =
    plan_only (admitted U.0) r s was now then (O.done U.0 U.1) (Q.done U.0 U.1)
planned_on_only {a = Err e} U r s was now then O Q =
    let x = O.refused in
    let y = Q.refused in
    (x.0 ∙ sym y.0, x.1 ∙ sym y.1)
