use Rattle.numbers.specs.Lists.{at}
use Rattle.numbers.specs.Divisors.{divides}
use Rattle.numbers.proofs.Finite.{Sought}
use Rattle.time.proofs.is_leading.Given as goal

-- none of the numbers before k divides the next period
abbrev pub invariant-loop-k : goal.invariant-loop-k
invariant-loop-k l = Sought l.count (λ k. divides (at l.kept k) l.next) l.k
