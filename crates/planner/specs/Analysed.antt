-- What the planner does with an analysis, whatever it was made from. A refusal by it is handed on; a table that it admits is an ask with no
-- check left before the call's own.
--
--   Usable a                  a is of some table, where it admits one
--   SteppedOn a p r was now   a step of p on the analysis a answers r
--   StandingsOn a p r         the standings of p on the analysis a are r
--   PlannedOn a r was now     the whole plan on the analysis a answers r
--
-- Only one answer fits (proofs/Asks).
use Rattle.std.specs.Prelude.{◌≡◌, List, ℕ, ℤ, Result, Err, IfOk, IfErr}
use Rattle.rules.specs.Bus.{Table}
use Rattle.rules.specs.Calls.{admitted}
use Rattle.table.specs.declared.refusals.Refusal.{Refusal}
use Rattle.verdict.specs.declared.Analysis.{Analysis}
use Rattle.verdict.specs.Analysed.{Accepted}
use Rattle.planner.specs.declared.Planner.{Planner}
use Rattle.planner.specs.Answers.{StepAnswer, StandingsAnswer, PlanAnswer}

abbrev pub Usable : Result Analysis Refusal → Type 0
Usable a = IfOk a (λ x. (t : Table) × Accepted t x)

pub record SteppedOn (a : Result Analysis Refusal) (p : Planner) (r : Result Planner Refusal) (was now : List ℕ) : Type 0 where
  pub done : IfOk a (λ x. (t : Table) → Accepted t x → StepAnswer (admitted t) p r was now)
  pub refused : IfErr a (λ e. (r ≡ Err e) × (now ≡ was))

pub record StandingsOn (a : Result Analysis Refusal) (p : Planner) (r : Result (List ℤ) Refusal) : Type 0 where
  pub done : IfOk a (λ x. (t : Table) → Accepted t x → StandingsAnswer (admitted t) p r)
  pub refused : IfErr a (λ e. r ≡ Err e)

pub record PlannedOn (a : Result Analysis Refusal) (r : Result Unit Refusal) (was now : List ℕ) : Type 0 where
  pub done : IfOk a (λ x. (t : Table) → Accepted t x → PlanAnswer (admitted t) r was now)
  pub refused : IfErr a (λ e. (r ≡ Err e) × (now ≡ was))
