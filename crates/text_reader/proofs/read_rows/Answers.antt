-- read_rows: line after line.
use Rattle.std.proofs.Common.{refl, arith}
use Rattle.text_reader.proofs.Wrongs.{handed}
use Rattle.text_reader.proofs.RowByRow.{reading_start, reading_stop, reading_next, reading_end, reading_refused}
use Rattle.text_reader.proofs.read_rows.Goals as goal

pub loop-line-init : goal.loop-line-init
loop-line-init c = reading_start _ c.requires.1 c.next_line-line.ensures

pub returns-in_err-row : goal.returns-in_err-row
returns-in_err-row c =
    let f = c.in_err-row.field-0.0 in
    rw (handed f c.from_residual.ensures.1)
    (reading_refused _ _ _ f
    (reading_stop c.loop-line.invariant c.loop-line-test.true f (rw (c.requires.2, c.requires.3) at c.in_err-row.ensures))
    c.loop-line.invariant.filled.same)

pub loop-line-preserved : goal.loop-line-preserved
loop-line-preserved c =
    reading_next c.loop-line.invariant c.loop-line-test.true (rw (c.requires.2, c.requires.3) at c.in_ok-row.ensures) _ _ _ _ c.requires.4
    c.put_numbers.ensures (c.has_field-labelled.ensures c.loop-line.line.start) refl c.next_line-line-in-loop-line.ensures

pub returns : goal.returns
returns c = reading_end c.loop-line.invariant (omega arith)
