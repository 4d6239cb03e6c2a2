-- Past the checks of a table as it is given the columns hold it.
use Rattle.numbers.specs.Lists.{at}
use Rattle.table.proofs.Reasons.{handed}
use Rattle.pasted.proofs.AsGiven.{given_of}
use Rattle.outline.proofs.Outlined.{outlined_given, outlined_past}
use Rattle.outline.proofs.outline_file.Goals as goal

pub returns-in_err-found : goal.returns-in_err-found
returns-in_err-found c =
    rw (handed c.in_err-found.field-0.0 c.from_residual.ensures.1)
    (record { answers = outlined_given _ _ c.in_err-found.ensures.answers; found = tt })

pub outline_of-requires : goal.outline_of-requires
outline_of-requires c =
    let D = c.in_ok-found.ensures in
    (at c.in_ok-found.found.columns.cost, rw D.passed.table (given_of _ 0 D.answers).sound)

pub returns : goal.returns
returns c =
    let D = c.in_ok-found.ensures in
    outlined_past _ D.answers
    (rw D.passed.table at (c.outline_of.ensures (at c.in_ok-found.found.columns.cost) (rw D.passed.table (given_of _ 0 D.answers).sound)))
