-- no_rows: columns of 0.
use Rattle.relay.proofs.Columns.{holds_none}
use Rattle.relay.proofs.no_rows.Goals as goal

pub returns : goal.returns
returns c = rw c.no_columns.ensures (holds_none c.args.elements c.args.rings)
