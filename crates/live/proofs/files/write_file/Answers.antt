-- write_file: the numbers of the rows present are written.
use Rattle.std.proofs.Common.{sym, arith}
use Rattle.numbers.proofs.Truth.{denied, granted}
use Rattle.rules.specs.TableFile.{numbers}
use Rattle.live.specs.State.{live_of}
use Rattle.live.proofs.Present.{present_few, present_length, present_numbers, file_off, file_written}
use Rattle.live.proofs.files.write_file.Goals as goal

pub returns-then-not-is_in_order : goal.returns-then-not-is_in_order
returns-then-not-is_in_order c =
    rw c.into.ensures
    (file_off c.args.version (live_of c.args.live.now) c.args.out.now (denied c.is_in_order.ensures c.if-not-is_in_order.true))

pub overflow_mul-size : goal.overflow_mul-size
overflow_mul-size c = omega (arith, present_few c.put_present-rows.ensures)

pub slice_bounds-numbers-end : goal.slice_bounds-numbers-end
slice_bounds-numbers-end c = omega (arith, present_few c.put_present-rows.ensures)

pub slice_bounds-write_plain-end : goal.slice_bounds-write_plain-end
slice_bounds-write_plain-end c = sym (present_length c.put_present-rows.ensures)

pub returns : goal.returns
unfolding numbers
returns c =
    file_written c.args.version (live_of c.args.live.now) c.args.out.now c.put_present-rows.result _ _ _ _
    (granted c.is_in_order.ensures c.if-not-is_in_order.false) c.put_present-rows.ensures.rows
    (present_numbers c.put_present-rows.ensures) c.write_plain.ensures
