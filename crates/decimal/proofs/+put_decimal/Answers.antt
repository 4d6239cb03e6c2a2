-- put_decimal: the text of n / 10, then the last digit.
use Rattle.std.proofs.Common.{arith}
use Rattle.decimal.proofs.Puts.{puts_byte, puts_one, puts_digit, digits_room}
use Rattle.decimal.proofs.+put_decimal.Goals as goal

pub returns-then-n-lt10 : goal.returns-then-n-lt10
returns-then-n-lt10 t c = puts_one (omega arith) (puts_byte c.put.ensures)

pub put-requires-2 : goal.put-requires-2
put-requires-2 t c =
    omega (arith, c.put_decimal-next.ensures.0.after, digits_room c.args.n (omega arith) (omega arith))

pub returns : goal.returns
returns t c = puts_digit (omega arith) (omega arith) c.put_decimal-next.ensures.0 (puts_byte c.put-2.ensures)
