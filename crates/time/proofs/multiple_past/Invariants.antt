use Rattle.numbers.specs.Lists.{at}
use Rattle.numbers.specs.Divisors.{Past}
use Rattle.time.proofs.multiple_past.Given as goal

-- the end is the first multiple of the periods before k
abbrev pub invariant-loop-k : goal.invariant-loop-k
invariant-loop-k l = Past l.k (at l.period) l.slot l.end
