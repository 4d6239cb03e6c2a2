-- check_row_numbers: the rows before row `i` have no fault.
use Rattle.rules.specs.TableFile.{memory_with}
use Rattle.table.proofs.Faults.{Checked}
use Rattle.writer.proofs.memory.check_row_numbers.Given as goal

abbrev pub invariant-loop-i : goal.invariant-loop-i
invariant-loop-i l = Checked (memory_with l.rings l.elements l.rows l.numbers) l.i
