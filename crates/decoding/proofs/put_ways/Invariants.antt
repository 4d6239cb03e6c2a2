-- put_ways: the directions of the rows before row `i` are read.
use Rattle.rules.specs.TableFile.{file_table}
use Rattle.table.specs.Columns.{ByRow}
use Rattle.decoding.proofs.put_ways.Given as goal

abbrev pub invariant-loop-i : goal.invariant-loop-i
invariant-loop-i l = ByRow l.i (file_table l.file).way l.way
