use Rattle.numbers.specs.Lists.{at}
use Rattle.planner.specs.Step.{RowsKeep}
use Rattle.planner.proofs.steady.rows_keep_step.Given as goal

-- the rows before row i keep step
abbrev pub invariant-loop-i : goal.invariant-loop-i
invariant-loop-i l = RowsKeep l.i l.hyper l.slot (at l.rate) (at l.totals)
