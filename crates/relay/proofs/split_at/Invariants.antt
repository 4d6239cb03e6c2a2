-- split_at: the columns hold what the rows before row `i` become.
use Rattle.table.specs.Columns.{table_of, Holds}
use Rattle.rules.specs.Relay.{of_rows, split_rows}
use Rattle.relay.proofs.split_at.Given as goal

abbrev pub invariant-loop-i : goal.invariant-loop-i
invariant-loop-i l = Holds (of_rows l.given.elements l.given.rings (split_rows (table_of l.given) l.relay l.i)) l.split
