-- put_all_numbers: the rows before row `i` are written.
use Rattle.std.proofs.Common.{◌*◌}
use Rattle.numbers.specs.Lists.{each}
use Rattle.numbers.proofs.Lists.{Filled}
use Rattle.rules.specs.TableFile.{row_numbers, memory_row}
use Rattle.table.specs.Columns.{column_labelled, no_labels}
use Rattle.reader.proofs.put_all_numbers.Given as goal

abbrev pub invariant-loop-i : goal.invariant-loop-i
invariant-loop-i l =
    Filled l.initial.out l.out (row_numbers * l.i)
    (each l.i (memory_row (column_labelled 0 l.table.rows 1 l.table.cost l.table.period l.table.first l.table.second no_labels l.last)))
