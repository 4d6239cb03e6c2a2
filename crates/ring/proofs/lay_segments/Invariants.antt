-- The words of the rows before row `i` are laid.
use Rattle.table.specs.Columns.{ByRow}
use Rattle.ring.specs.Rows.{segments_of}
use Rattle.ring.proofs.lay_segments.Given as goal

abbrev pub invariant-loop-i : goal.invariant-loop-i
invariant-loop-i l = ByRow l.i (segments_of l.table) l.words
