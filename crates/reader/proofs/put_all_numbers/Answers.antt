-- put_all_numbers: the rows before row `i` are written.
use Rattle.std.proofs.Common.{◌≡◌, [], ◌+◌, ◌*◌, ◌≤◌, length, refl, sym, arith}
use Rattle.numbers.proofs.Lists.{filled_start, zeros_at}
use Rattle.numbers.proofs.Codec.{filled_rows, filled_row}
use Rattle.rules.specs.Bounds.{max_rows}
use Rattle.rules.specs.TableFile.{row_numbers, numbers}
use Rattle.rules.proofs.Calls.{filled_lent}
use Rattle.table.specs.Columns.{no_labels}
use Rattle.table.proofs.ByRow.{has_row}
use Rattle.reader.proofs.Calls.{memory_row_lem}
use Rattle.reader.proofs.put_all_numbers.Goals as goal

pub loop-i-init : goal.loop-i-init
loop-i-init c = filled_rows [] _ (filled_start _)

pub loop-i-preserved : goal.loop-i-preserved
loop-i-preserved c =
    let i = c.loop-i.i in
    let q = memory_row_lem
    (has_row 0 c.args.table.now.rows 1 no_labels c.args.last.now c.row_at.ensures (sym (zeros_at max_rows i)) refl) in
    let room : row_numbers * (i + 1) ≤ length c.args.out.now = omega (arith, c.requires.1) in
    filled_row [] _ _ _ c.loop-i.invariant c.put_numbers.ensures q (omega arith) room

pub returns : goal.returns
unfolding numbers
returns c =
    let e : c.loop-i.i ≡ c.args.table.now.rows = omega arith in
    rw e at (filled_lent c.loop-i.invariant)
