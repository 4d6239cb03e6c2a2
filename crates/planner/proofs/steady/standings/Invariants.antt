use Rattle.numbers.specs.Lists.{at}
use Rattle.planner.proofs.Keeping.{Standing}
use Rattle.planner.proofs.steady.standings.Given as goal

-- the rows before row i have their standings
abbrev pub invariant-loop-i : goal.invariant-loop-i
invariant-loop-i l = Standing l.rows l.hyper l.slot (at l.rate) (at l.totals) l.standing l.i
