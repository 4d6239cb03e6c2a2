-- The party is over its limit on no segment before s + 1.
use Rattle.std.proofs.Common.{◌*◌, ltb}
use Rattle.numbers.proofs.Finite.{Sought}
use Rattle.limited.specs.Limits.{weight_on}
use Rattle.limited.proofs.limits.lowest_over.Given as goal

abbrev pub invariant-loop-s : goal.invariant-loop-s
invariant-loop-s l =
    Sought l.elements (λ k. ltb (l.limit * l.hyper) (1000 * weight_on l.rows l.rate l.segments l.label l.theirs k)) l.s
