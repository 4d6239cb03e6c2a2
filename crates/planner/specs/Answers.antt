-- What the planner's calls answer. `was` and `now` are what the lent slice holds before and after.
--
--   StepAnswer a p r was now   a step of p answers r to ask a
--   StandingsAnswer a p r      the standings of p answer r to ask a
--   PlanAnswer a r was now     the whole plan answers r to ask a
--
-- Each holds what document 01 says of the call. Only one answer fits (proofs/Only).
use Rattle.std.specs.Prelude.{◌≡◌, List, ℕ, ℤ, pos, length, get_or, Result, IfOk}
use Rattle.rules.specs.Bounds.{max_rows}
use Rattle.rules.specs.Calls.{Ask, Planned, Stepped, Stood}
use Rattle.table.specs.Refusal.{number, place}
use Rattle.table.specs.declared.refusals.Refusal.{Refusal}
use Rattle.planner.specs.declared.Planner.{Planner}
use Rattle.planner.specs.State.{planner_of, after, values}

-- A refusal leaves the planner as it was given.
pub record StepAnswer (a : Ask) (p : Planner) (r : Result Planner Refusal) (was now : List ℕ) : Type 0 where
  pub stepped : Stepped a (planner_of p) (planner_of (after p r)) was now (number r) (place r)
  pub size : length (after p r).totals ≡ max_rows

pub record StandingsAnswer (a : Ask) (p : Planner) (r : Result (List ℤ) Refusal) : Type 0 where
  pub stood : Stood a (planner_of p) (λ i. get_or (values r) i (pos 0)) (number r) (place r)
  pub size : IfOk r (λ xs. length xs ≡ max_rows)

pub record PlanAnswer (a : Ask) (r : Result Unit Refusal) (was now : List ℕ) : Type 0 where
  pub planned : Planned a was now (number r) (place r)
