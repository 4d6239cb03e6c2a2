-- put_fields: a number more.
use Rattle.std.proofs.Common.{arith}
use Rattle.numbers.proofs.Lists.{each_none, each_next}
use Rattle.decimal.proofs.Puts.{puts_none, puts_more}
use Rattle.decimal.proofs.put_fields.Goals as goal

pub loop-x-init : goal.loop-x-init
loop-x-init c = (omega arith, rw each_none (puts_none _ _))

pub loop-x-preserved : goal.loop-x-preserved
loop-x-preserved c =
    let P = c.put_field-next.ensures in
    (omega (arith, P.1), rw each_next (puts_more c.loop-x.invariant.1 P.0))
