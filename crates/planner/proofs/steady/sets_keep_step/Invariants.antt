use Rattle.numbers.specs.Lists.{at}
use Rattle.planner.specs.Step.{SetsKeep}
use Rattle.planner.proofs.steady.sets_keep_step.Given as goal

-- the sets before set k keep step
abbrev pub invariant-loop-k : goal.invariant-loop-k
invariant-loop-k l = SetsKeep l.rows l.hyper l.slot (at l.rate) l.k (at l.words) (at l.totals)
