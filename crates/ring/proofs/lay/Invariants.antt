-- The rows before row `i` are laid.
use Rattle.numbers.specs.Lists.{at}
use Rattle.ring.specs.Rows.{Renumbered}
use Rattle.ring.proofs.lay.Given as goal

abbrev pub invariant-loop-i : goal.invariant-loop-i
invariant-loop-i l =
    Renumbered l.table.elements l.cut l.other l.i (at l.table.first) (at l.table.second) (at l.table.way)
    (record { first = l.first; second = l.second })
