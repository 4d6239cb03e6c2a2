-- last_numbers: the numbers of the rows before row `i` are there.
use Rattle.std.proofs.Common.{◌≡◌, arith}
use Rattle.table.proofs.ByRow.{by_row_start, by_row_put}
use Rattle.reader.proofs.last_numbers.Goals as goal

pub loop-i-init : goal.loop-i-init
loop-i-init c = by_row_start _

pub loop-i-preserved : goal.loop-i-preserved
loop-i-preserved c = by_row_put _ c.loop-i.invariant (omega arith) c.last_number.ensures

pub returns : goal.returns
returns c =
    let all : c.loop-i.i ≡ c.args.table.now.rows = omega arith in
    rw all at c.loop-i.invariant
