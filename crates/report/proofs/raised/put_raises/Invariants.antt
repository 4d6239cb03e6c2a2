-- The lines of the first i rows are put.
use Rattle.numbers.specs.Lists.{at}
use Rattle.decimal.specs.Puts.{PutsLines}
use Rattle.report.specs.RaisedLines.{raised_lines}
use Rattle.report.proofs.raised.put_raises.Given as goal

abbrev pub invariant-loop-i : goal.invariant-loop-i
invariant-loop-i l = PutsLines (raised_lines l.i (at l.old) (at l.new)) l.i l.initial.out 0 l.out l.next
