-- rows_split: `rows` is how many rows those before row `i` become.
use Rattle.std.proofs.Common.{◌≡◌, ◌*◌, ◌≤◌}
use Rattle.table.specs.Columns.{table_of}
use Rattle.rules.specs.Relay.{stands_at}
use Rattle.relay.proofs.rows_split.Given as goal

abbrev pub invariant-loop-i : goal.invariant-loop-i
invariant-loop-i l = (l.rows ≡ stands_at (table_of l.given) l.relay l.i) × (l.rows ≤ 2 * l.i)
