use Rattle.numbers.specs.Lists.{at}
use Rattle.time.specs.Time.{Nearing}
use Rattle.time.proofs.shortest_of.Given as goal

-- the divisors of the periods before i are in
abbrev pub invariant-loop-i : goal.invariant-loop-i
invariant-loop-i l = Nearing l.count (at l.period) l.i 0 l.l
