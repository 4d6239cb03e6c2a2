-- judge: past the checks of a table as it is given the columns hold it, and its verdict is the file's.
use Rattle.table.proofs.Reasons.{handed}
use Rattle.pasted.proofs.AsGiven.{given_of}
use Rattle.verdict.proofs.Bound.{given_stops}
use Rattle.verdict.proofs.Judging.{judged_refused, judged_past}
use Rattle.verdict.proofs.judge.Goals as goal

pub returns-in_err-given_into : goal.returns-in_err-given_into
returns-in_err-given_into c =
    rw (handed c.in_err-given_into.field-0.0 c.from_residual.ensures.1)
    (judged_refused _ (given_stops _ _ c.in_err-given_into.ensures.answers))

pub judge_table-requires : goal.judge_table-requires
judge_table-requires c =
    let D = c.in_ok-given_into.ensures in
    rw D.passed.table (given_of _ _ D.answers).sound

pub returns : goal.returns
returns c =
    let D = c.in_ok-given_into.ensures in
    judged_past _ D.answers _ (rw D.passed.table at c.judge_table.ensures)
