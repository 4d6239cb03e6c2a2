-- numbers: a digit more, or a byte that ends a number.
use Rattle.std.proofs.Common.{arith}
use Rattle.cases.specs.Reading.{is_digit}
use Rattle.cases.proofs.Reading.{front_digit, front_other, front_end}
use Rattle.cases.proofs.numbers.Goals as goal
use Rattle.cases.proofs.numbers.Goals.{then-is_ascii_digit, else-is_ascii_digit}

pub loop-byte-preserved : goal.loop-byte-preserved
unfolding is_digit
loop-byte-preserved c =
    let l = c.loop-byte-test.true in
    elim c.if-is_ascii_digit.branch [
      | then-is_ascii_digit w ↦
          rw (w.open-is, w.k-is, w.out-is, w.grow.ensures, w.unwrap_or.ensures)
          (front_digit c.loop-byte.invariant l w.if-is_ascii_digit.ensures.value)
      | else-is_ascii_digit w ↦
          rw (w.open-is, w.k-is, w.out-is) (front_other c.loop-byte.invariant l w.if-is_ascii_digit.ensures.value w.put_ended-k.ensures)
    ]

pub returns : goal.returns
returns c = front_end c.loop-byte.invariant (omega arith) c.put_ended.ensures
