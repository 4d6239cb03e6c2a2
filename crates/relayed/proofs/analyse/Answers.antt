-- analyse: past the checks of a table that is to be split the columns hold the split table.
use Rattle.table.proofs.Reasons.{handed}
use Rattle.relayed.proofs.Checked.{relayed_stopped, split_zero, relayed_past, columns_sound}
use Rattle.relayed.proofs.analyse.Goals as goal

pub returns-in_err-split : goal.returns-in_err-split
returns-in_err-split c =
    rw (handed c.in_err-split.field-0.0 c.from_residual.ensures.1)
    (relayed_stopped c.args.file.now c.args.relay _ c.in_err-split.ensures.answers)

pub analysis_of-requires : goal.analysis_of-requires
analysis_of-requires c =
    let S = c.in_ok-split.ensures in
    columns_sound _ _ (split_zero _ _ S.answers) _ S.passed.table

pub returns : goal.returns
returns c =
    let S = c.in_ok-split.ensures in
    relayed_past _ _ (split_zero _ _ S.answers) _ S.passed.table c.analysis_of.ensures
