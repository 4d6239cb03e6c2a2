-- The refusals of a table as it is given and on the line, 32, or the set and where its rows meet.
use Rattle.std.proofs.Common.{arith}
use Rattle.numbers.specs.Lists.{at}
use Rattle.table.proofs.Reasons.{handed}
use Rattle.meeting.proofs.CrowdAsked.{crowd_given, crowd_sound, crowd_routes, crowd_line, crowd_few, crowd_past, crowd_done}
use Rattle.meeting.proofs.crowd.of_set.Goals as goal

pub returns-in_err-found : goal.returns-in_err-found
returns-in_err-found c =
    rw (handed c.in_err-found.field-0.0 c.from_residual.ensures.1) (crowd_given _ _ _ c.in_err-found.ensures.answers)

pub outline_of-requires : goal.outline_of-requires
outline_of-requires c =
    let D = c.in_ok-found.ensures in
    (at c.in_ok-found.found.columns.cost, crowd_sound _ c.args.k D.answers D.passed)

pub returns-in_err-outline : goal.returns-in_err-outline
returns-in_err-outline c =
    let D = c.in_ok-found.ensures in
    rw (handed c.in_err-outline.field-0.0 c.from_residual-in_err-outline.ensures.1)
    (crowd_line _ _ D.answers D.passed _ c.in_err-outline.ensures)

pub returns-then-k-outline : goal.returns-then-k-outline
returns-then-k-outline c =
    let D = c.in_ok-found.ensures in
    rw c.from.ensures (crowd_past _ _ D.answers D.passed c.in_ok-outline.ensures c.if-k-outline.true)

pub offset_bounds-outline-k : goal.offset_bounds-outline-k
offset_bounds-outline-k c =
    let D = c.in_ok-found.ensures in
    omega (arith, c.if-k-outline.false, crowd_few _ c.args.k D.answers D.passed c.in_ok-outline.ensures)

pub bounds-outline-k : goal.bounds-outline-k
bounds-outline-k c =
    let D = c.in_ok-found.ensures in
    omega (arith, c.if-k-outline.false, crowd_few _ c.args.k D.answers D.passed c.in_ok-outline.ensures)

pub lay_segments-segments-requires : goal.lay_segments-segments-requires
lay_segments-segments-requires c = let D = c.in_ok-found.ensures in crowd_routes _ c.args.k D.answers D.passed

pub common-requires : goal.common-requires
common-requires c = let D = c.in_ok-found.ensures in let R = crowd_routes _ c.args.k D.answers D.passed in (R.small, R.few)

pub returns : goal.returns
returns c =
    let D = c.in_ok-found.ensures in
    crowd_done _ _ D.answers D.passed c.in_ok-outline.ensures c.if-k-outline.false _ c.lay_segments-segments.ensures c.common.ensures
