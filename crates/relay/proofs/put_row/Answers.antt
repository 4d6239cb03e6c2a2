-- put_row: the columns with the row after the last.
use Rattle.std.proofs.Common.{refl}
use Rattle.relay.proofs.Columns.{holds_more}
use Rattle.relay.proofs.put_row.Goals as goal

pub returns : goal.returns
returns c = (refl, λ M d xs H. holds_more M d xs c.args.columns.now c.args.row c.requires.0 H)
