-- check_row_numbers: the rows before row `i` have no fault.
use Rattle.std.proofs.Common.{arith, refl}
use Rattle.table.proofs.Reasons.{not_done}
use Rattle.table.proofs.Faults.{checked_start, checked_next, checked_stop, checked_end}
use Rattle.writer.proofs.memory.check_row_numbers.Goals as goal

pub loop-i-init : goal.loop-i-init
loop-i-init c = checked_start _

pub returns-in-Err : goal.returns-in-Err
returns-in-Err c =
    rw (c.at.ensures.0, c.at.ensures.1)
    (checked_stop _ _ _ refl refl (c.row_of.ensures c.args.elements c.args.rows) c.in-Err.ensures c.loop-i.invariant c.loop-i-test.true
    (not_done c.in-Err.reason))

pub loop-i-preserved : goal.loop-i-preserved
loop-i-preserved c =
    checked_next _ _ _ refl refl (c.row_of.ensures c.args.elements c.args.rows) c.in_default.ensures c.loop-i.invariant
    c.loop-i-test.true refl

pub returns : goal.returns
returns c = checked_end c.loop-i.invariant (omega arith)
