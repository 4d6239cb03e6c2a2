-- is_leading: number after number does not divide the next period.
use Rattle.std.proofs.Common.{arith}
use Rattle.numbers.specs.Divisors.{divides}
use Rattle.numbers.specs.Lists.{at}
use Rattle.numbers.proofs.Truth.{eqb_of}
use Rattle.time.proofs.Periods.{some_has, none_has}
use Rattle.time.proofs.is_leading.Goals as goal

pub returns-then-next-slots_at-eq0 : goal.returns-then-next-slots_at-eq0
returns-then-next-slots_at-eq0 c =
    let a = c.args in
    some_has a.count (λ k. divides (at a.kept.now k) a.next) c.loop-k.k (omega arith)
    (eqb_of _ _ (rw c.slots_at.ensures at c.if-next-slots_at-eq0.true))

pub returns : goal.returns
returns c = none_has _ _ c.loop-k.invariant (omega arith)
