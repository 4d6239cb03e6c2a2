-- A planner moved on where it is kept.
--
--   joined q r                     a step's answer that leaves the planner q
--   MovedInPlace f p q r was now   moving p on with file f leaves q in its place and answers r; `was` and `now` are what the lent slice
--                                  holds before and after
--
-- What is left in place and what is answered are, joined, what a step answers; a refusal leaves the planner that was there. Only one answer
-- fits (proofs/MovedOnly).
use Rattle.std.specs.Prelude.{◌≡◌, List, ℕ, Result, Ok, Err, IfErr}
use Rattle.rules.specs.Calls.{file_ask}
use Rattle.table.specs.declared.refusals.Refusal.{Refusal}
use Rattle.planner.specs.declared.Planner.{Planner}
use Rattle.planner.specs.Answers.{StepAnswer}

abbrev pub joined : Planner → Result Unit Refusal → Result Planner Refusal
joined q (Ok _) = Ok q
joined q (Err r) = Err r

pub record MovedInPlace (f : List ℕ) (p q : Planner) (r : Result Unit Refusal) (was now : List ℕ) : Type 0 where
  pub moved : StepAnswer (file_ask f) p (joined q r) was now
  pub kept : IfErr r (λ _. q ≡ p)
