-- lowest_pasted: row after row has no earlier one with its ends and period.
use Rattle.std.proofs.Common.{◌+◌}
use Rattle.numbers.specs.Lists.{at}
use Rattle.numbers.proofs.Finite.{Sought}
use Rattle.rules.specs.Bounds.{max_elements}
use Rattle.rules.specs.Bus.{pasted}
use Rattle.table.specs.Columns.{table_of}
use Rattle.sets.proofs.Loops.{Filling}
use Rattle.pasted.proofs.lowest_pasted.Given as goal

abbrev pub invariant-loop-i : goal.invariant-loop-i
invariant-loop-i l = record {
  sought : Sought l.table.rows (pasted (table_of l.table)) l.i;
  filled : Filling (max_elements + 1) l.i (at l.table.first) l.starts;
}
