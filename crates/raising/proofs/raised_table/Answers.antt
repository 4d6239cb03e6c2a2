-- raised_table: the refusals of a table as it is given and on the line, or its raised costs.
use Rattle.numbers.specs.Lists.{at}
use Rattle.table.proofs.Reasons.{handed}
use Rattle.outline.proofs.Laying.{laid_in}
use Rattle.raising.proofs.Asked.{raising_given, raising_sound, raising_times, raising_line, raising_interval, raising_done}
use Rattle.raising.proofs.raised_table.Goals as goal

pub returns-in_err-given : goal.returns-in_err-given
returns-in_err-given c =
    rw (handed c.in_err-given.field-0.0 c.from_residual.ensures.1) (raising_given _ _ c.in_err-given.ensures.answers)

pub lay_into-requires : goal.lay_into-requires
lay_into-requires c = (at c.in_ok-given.given.columns.cost, raising_sound _ _ c.in_ok-given.ensures)

pub returns-in_err-lay_into : goal.returns-in_err-lay_into
returns-in_err-lay_into c =
    let D = c.in_ok-given.ensures in
    let O = c.in_err-lay_into.ensures (at c.in_ok-given.given.columns.cost) (raising_sound _ _ D) in
    rw (handed c.in_err-lay_into.field-0.0 c.from_residual-in_err-lay_into.ensures.1) (raising_line _ _ D _ O.answers)

pub raised_costs-cost-requires : goal.raised_costs-cost-requires
raised_costs-cost-requires c =
    let D = c.in_ok-given.ensures in
    let O = laid_in (c.in_ok-lay_into.ensures (at c.in_ok-given.given.columns.cost) (raising_sound _ _ D)) in
    let I = raising_interval _ _ D _ O in
    (raising_times _ _ D, I.0, I.1)

pub returns : goal.returns
returns c =
    let D = c.in_ok-given.ensures in
    let O = laid_in (c.in_ok-lay_into.ensures (at c.in_ok-given.given.columns.cost) (raising_sound _ _ D)) in
    raising_done _ _ D _ O c.raised_costs-cost.ensures
