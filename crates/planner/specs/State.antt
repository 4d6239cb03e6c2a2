-- The code's planner, as document 01's.
--
--   stage_of s          the stage s
--   planner_of p        the planner p: its stage, and its totals by row
--   fresh_planner       interval 0 due and all totals 0
--   after p r           the planner after a step of p that answers r: p itself where it is refused
--   values r            the standings that r tells, none where they are refused
--   slot_of t s         the slot that stage s has reached; h where the interval due is none of the table's
--   late_at s slot h    the interval due is none of the table's, where the stage has reached `slot`
--   stage_after e h k   the stage after an interval that ends at slot e, where interval k is the next
use Rattle.std.specs.Prelude.{Bool, false, cond, ℕ, min, eqb, replicate, List, [], ℤ, Result, Ok, Err}
use Rattle.numbers.specs.Lists.{at}
use Rattle.rules.specs.Bounds.{max_rows}
use Rattle.rules.specs.Bus.{Table}
use Rattle.rules.specs.Loads.{hyperperiod, start, intervals}
use Rattle.rules.specs.Planner as rules
use Rattle.table.specs.declared.refusals.Refusal.{Refusal}
use Rattle.planner.specs.declared.Stage.{Stage}
use Rattle.planner.specs.declared.Stage.TheVariants.{Due, Finished}
use Rattle.planner.specs.declared.Planner.{Planner}

abbrev pub stage_of : Stage → rules.Stage
stage_of (Due k) = rules.due k
stage_of Finished = rules.finished

abbrev pub planner_of : Planner → rules.Planner
planner_of p = record { stage = stage_of p.stage; totals = at p.totals }

abbrev pub fresh_planner : Planner
fresh_planner = record { stage = Due 0; totals = replicate max_rows 0 }

abbrev pub slot_of : Table → Stage → ℕ
slot_of t (Due k) = start t (min k (intervals t))
slot_of t Finished = hyperperiod t

abbrev pub late_at : Stage → ℕ → ℕ → Bool
late_at (Due k) slot h = eqb slot h
late_at Finished slot h = false

abbrev pub stage_after : ℕ → ℕ → ℕ → Stage
stage_after e h k = cond (eqb e h) Finished (Due k)

abbrev pub after : Planner → Result Planner Refusal → Planner
after p (Ok q) = q
after p (Err _) = p

abbrev pub values : Result (List ℤ) Refusal → List ℤ
values (Ok xs) = xs
values (Err _) = []
