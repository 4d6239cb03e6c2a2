-- labels_of: the labels of the rows before row `i` are read.
use Rattle.rules.specs.TableFile.{file_labelled}
use Rattle.table.specs.Columns.{ByRow}
use Rattle.decoding.proofs.labels_of.Given as goal

abbrev pub invariant-loop-i : goal.invariant-loop-i
invariant-loop-i l = ByRow l.i (file_labelled l.file).label l.labels
