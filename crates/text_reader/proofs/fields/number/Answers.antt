-- number: the bytes passed are digits.
use Rattle.std.proofs.Common.{arith}
use Rattle.numbers.proofs.Truth.{denied, granted}
use Rattle.text_reader.proofs.Numbers.{summed_start, summed_next, cell_word, cell_large, cell_value}
use Rattle.text_reader.proofs.fields.number.Goals as goal

pub loop-b-init : goal.loop-b-init
loop-b-init c = summed_start _

pub returns-then-not-is_digit : goal.returns-then-not-is_digit
returns-then-not-is_digit c = cell_word _ c.loop-b.invariant (omega arith) (denied c.is_digit.ensures c.if-not-is_digit.true)

pub grow-x-requires : goal.grow-x-requires
grow-x-requires c = (omega (arith, c.loop-b.invariant.sum), granted c.is_digit.ensures c.if-not-is_digit.false)

pub loop-b-preserved : goal.loop-b-preserved
loop-b-preserved c =
    summed_next c.loop-b.invariant _ (omega arith) (granted c.is_digit.ensures c.if-not-is_digit.false)
    c.grow-x.ensures

pub returns-then-x-gt65535 : goal.returns-then-x-gt65535
returns-then-x-gt65535 c = cell_large _ c.loop-b.invariant (omega arith) (omega arith)

pub returns : goal.returns
returns c = cell_value _ c.loop-b.invariant (omega arith) (omega arith)
