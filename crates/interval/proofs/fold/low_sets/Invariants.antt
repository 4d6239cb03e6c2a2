use Rattle.std.proofs.Common.{not, bit_and, eqb}
use Rattle.numbers.specs.Lists.{at}
use Rattle.numbers.proofs.Finite.{Sought}
use Rattle.interval.proofs.fold.low_sets.Given as goal

-- no set up to k has one of the rows
abbrev pub invariant-loop-k : goal.invariant-loop-k
invariant-loop-k l = Sought l.sets (λ j. not (eqb (bit_and (at l.words j) l.upper) 0)) l.k
