-- put_bytes: a byte more.
use Rattle.std.proofs.Common.{arith}
use Rattle.numbers.proofs.Lists.{take_next}
use Rattle.decimal.proofs.Puts.{puts_byte, puts_more}
use Rattle.decimal.proofs.put_bytes.Goals as goal

pub loop-b-preserved : goal.loop-b-preserved
loop-b-preserved c =
    let P = puts_byte c.put-next.ensures in
    (omega (arith, P.after), rw (take_next _ _ c.loop-b-test.true) (puts_more c.loop-b.invariant.1 P))
