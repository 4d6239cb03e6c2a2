-- 1 to 9 as they are decoded, 32 for either row, or the segments that both use.
use Rattle.table.proofs.Reasons.{handed}
use Rattle.meeting.proofs.Asked.{met_refused, met_routes, no_first_row, no_second_row, met_done}
use Rattle.meeting.proofs.meet.Goals as goal

pub returns-in_err-found : goal.returns-in_err-found
returns-in_err-found c =
    rw (handed c.in_err-found.field-0.0 c.from_residual.ensures.1) (met_refused _ _ _ _ c.in_err-found.ensures.answers)

pub returns-then-i-found : goal.returns-then-i-found
returns-then-i-found c =
    let D = c.in_ok-found.ensures in
    rw (c.at.ensures.0, c.at.ensures.1) (no_first_row _ _ _ D.answers D.passed c.if-i-found.true)

pub returns-then-j-found : goal.returns-then-j-found
returns-then-j-found c =
    let D = c.in_ok-found.ensures in
    rw (c.at-then-j-found.ensures.0, c.at-then-j-found.ensures.1)
    (no_second_row _ _ _ D.answers D.passed c.if-i-found.false c.if-j-found.true)

pub shared-requires : goal.shared-requires
shared-requires c =
    let D = c.in_ok-found.ensures in
    (c.in_ok-found.found.columns.rows, met_routes _ c.args.i c.args.j D.answers D.passed, c.if-i-found.false, c.if-j-found.false)

pub returns : goal.returns
returns c =
    let D = c.in_ok-found.ensures in
    met_done _ _ _ D.answers D.passed c.if-i-found.false c.if-j-found.false (c.shared.ensures _)
