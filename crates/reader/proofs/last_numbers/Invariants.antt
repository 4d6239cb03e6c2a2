-- last_numbers: the numbers of the rows before row `i` are there.
use Rattle.numbers.specs.Lists.{at}
use Rattle.rules.specs.TableFile.{last_of}
use Rattle.table.specs.Columns.{ByRow}
use Rattle.reader.proofs.last_numbers.Given as goal

abbrev pub invariant-loop-i : goal.invariant-loop-i
invariant-loop-i l = ByRow l.i (λ k. last_of l.table.rings (at l.table.way k) (at l.labels k)) l.last
