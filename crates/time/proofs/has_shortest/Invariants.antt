use Rattle.std.proofs.Common.{eqb}
use Rattle.numbers.specs.Lists.{at}
use Rattle.numbers.proofs.Finite.{Sought}
use Rattle.time.proofs.has_shortest.Given as goal

-- none of the periods before k is L
abbrev pub invariant-loop-k : goal.invariant-loop-k
invariant-loop-k l = Sought l.count (λ k. eqb (at l.period k) l.interval) l.k
