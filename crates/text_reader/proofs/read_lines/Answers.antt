-- read_lines: the heading, and then the rows.
use Rattle.text_reader.proofs.Wrongs.{handed}
use Rattle.text_reader.proofs.Texts.{heading_stops, heading_passes, elements_are, rings_are, rest, lines_heading, lines_rows, lines_empty}
use Rattle.text_reader.proofs.Texts.{lines_done}
use Rattle.std.proofs.Common.{refl}
use Rattle.text_reader.proofs.read_lines.Goals as goal

pub returns-in_err-heading : goal.returns-in_err-heading
returns-in_err-heading c =
    let f = c.in_err-heading.field-0.0 in
    rw (handed f c.from_residual.ensures.1)
    (lines_heading _ _ _ f (heading_stops c.next_line-first.ensures f c.in_err-heading.ensures) refl)

pub read_rows-requires : goal.read_rows-requires
read_rows-requires c =
    let n = c.next_line-first.ensures in
    let h = c.in_ok-heading.ensures in
    (c.requires.0, rest n h, rings_are n h, elements_are n h, c.requires.1)

pub returns-in_err-found : goal.returns-in_err-found
returns-in_err-found c =
    let f = c.in_err-found.field-0.0 in
    rw (handed f c.from_residual-in_err-found.ensures.1)
    (lines_rows _ _ _ (heading_passes c.next_line-first.ensures c.in_ok-heading.ensures) f c.in_err-found.ensures)

pub returns-then-found-eq0 : goal.returns-then-found-eq0
returns-then-found-eq0 c =
    lines_empty _ _ _ (heading_passes c.next_line-first.ensures c.in_ok-heading.ensures) c.in_ok-found.ensures c.if-found-eq0.true

pub returns : goal.returns
returns c =
    let n = c.next_line-first.ensures in
    let h = c.in_ok-heading.ensures in
    lines_done _ _ _ (heading_passes n h) c.in_ok-found.ensures _ _ _ _ c.if-found-eq0.false (rings_are n h) (elements_are n h)
    c.mark_byte.ensures c.version_for.ensures
