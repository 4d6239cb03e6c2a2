-- read_rows: the lines before `line` are rows that pass.
use Rattle.std.proofs.Common.{◌+◌, ◌-◌}
use Rattle.rules.specs.Bounds.{max_rows}
use Rattle.text_reader.proofs.RowByRow.{Reading}
use Rattle.text_reader.proofs.read_rows.Given as goal

abbrev pub invariant-loop-line : goal.invariant-loop-line
invariant-loop-line l = Reading l.text l.initial.numbers l.numbers l.i l.labelled l.line

abbrev pub decreases-loop-line : goal.decreases-loop-line
decreases-loop-line l = max_rows + 1 - l.i
