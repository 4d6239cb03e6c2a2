-- check_labels: the rows before row `i` have no label.
use Rattle.writer.proofs.Labels.{Bare}
use Rattle.writer.proofs.memory.check_labels.Given as goal

abbrev pub invariant-loop-i : goal.invariant-loop-i
invariant-loop-i l = Bare l.rings l.numbers l.i
