-- outline_file: past the checks of a table that is to be split the columns hold the split table.
use Rattle.numbers.specs.Lists.{at}
use Rattle.table.proofs.Reasons.{handed}
use Rattle.relayed.proofs.Checked.{line_stopped, split_zero, line_past, columns_sound}
use Rattle.relayed.proofs.outline_file.Goals as goal

pub returns-in_err-table : goal.returns-in_err-table
returns-in_err-table c =
    rw (handed c.in_err-table.field-0.0 c.from_residual.ensures.1)
    (line_stopped c.args.file.now c.args.relay _ c.in_err-table.ensures.answers)

pub outline_of-requires : goal.outline_of-requires
outline_of-requires c =
    let S = c.in_ok-table.ensures in
    (at c.in_ok-table.table.cost, columns_sound _ _ (split_zero _ _ S.answers) _ S.passed.table)

pub returns : goal.returns
returns c =
    let f = c.args.file.now in
    let r = c.args.relay in
    let S = c.in_ok-table.ensures in
    let n = split_zero f r S.answers in
    line_past f r n _ S.passed.table (c.outline_of.ensures (at c.in_ok-table.table.cost) (columns_sound f r n _ S.passed.table))
