-- analyse: past the checks of a table as it is given the columns hold it.
use Rattle.table.proofs.Reasons.{handed}
use Rattle.pasted.proofs.AsGiven.{given_of}
use Rattle.verdict.proofs.Analysing.{analysed_given, analysed_past}
use Rattle.verdict.proofs.analyse.Goals as goal

pub returns-in_err-given_into : goal.returns-in_err-given_into
returns-in_err-given_into c =
    rw (handed c.in_err-given_into.field-0.0 c.from_residual.ensures.1) (analysed_given _ _ c.in_err-given_into.ensures.answers)

pub analysis_of-requires : goal.analysis_of-requires
analysis_of-requires c =
    let D = c.in_ok-given_into.ensures in
    rw D.passed.table (given_of _ _ D.answers).sound

pub returns : goal.returns
returns c =
    let D = c.in_ok-given_into.ensures in
    analysed_past _ D.answers (rw D.passed.table at c.analysis_of.ensures)
