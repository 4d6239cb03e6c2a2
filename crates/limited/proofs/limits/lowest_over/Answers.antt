-- lowest_over: segment after segment is within the limit.
use Rattle.std.proofs.Common.{◌≡◌, sym, ◌∙◌, arith}
use Rattle.std.proofs.Math.Nat.{mul-le-mul}
use borrow.Author.Tests.{lt-ltb, le-ltb}
use Rattle.numbers.proofs.Finite.{sought_start, sought_next, sought_found, sought_end}
use Rattle.limited.proofs.limits.lowest_over.Goals as goal

pub overflow_mul-most : goal.overflow_mul-most
overflow_mul-most c = omega (arith, mul-le-mul c.requires.3 c.requires.2)

pub loop-s-init : goal.loop-s-init
loop-s-init c = sought_start

pub returns-then-most-load_on : goal.returns-then-most-load_on
returns-then-most-load_on c = sought_found c.loop-s.invariant (omega arith) (rw (← c.load_on.ensures.0) (lt-ltb _ _ c.if-most-load_on.true))

pub loop-s-preserved : goal.loop-s-preserved
loop-s-preserved c = sought_next c.loop-s.invariant (omega arith) (rw (← c.load_on.ensures.0) (le-ltb _ _ c.if-most-load_on.false))

pub returns : goal.returns
returns c =
    let all : c.loop-s.s ≡ c.args.elements = omega arith in
    sym all ∙ sought_end c.loop-s.invariant (omega arith)
