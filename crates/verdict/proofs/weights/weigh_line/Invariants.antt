use lib.Dec.{eqb}
use Rattle.numbers.specs.Lists.{at}
use Rattle.verdict.proofs.Line.{Passing}
use Rattle.verdict.proofs.weights.weigh_line.Given as goal

-- the sets below element e are passed and weighed
abbrev pub invariant-loop-e : goal.invariant-loop-e
invariant-loop-e l =
    Passing l.rows (at l.first) (at l.second) l.rate l.e (eqb l.interval l.hyper) l.hyper l.interval l.started
    l.found.sets l.found.over l.found.largest l.load
