-- goes: the row's route, by its ends and its direction.
use Rattle.table.specs.Columns.{table_of}
use Rattle.relay.proofs.Columns.{through_is}
use Rattle.relay.proofs.goes.Goals as goal

pub returns : goal.returns
returns c =
    let a = c.args in
    through_is (table_of a.columns.now) a.i a.relay c.end_at.ensures c.end_at-2.ensures c.end_at-3.ensures c.goes_through.ensures
