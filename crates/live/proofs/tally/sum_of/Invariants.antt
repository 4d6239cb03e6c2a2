-- The rows before i are added.
use Rattle.live.specs.Tally.{column_places}
use Rattle.live.proofs.Sums.{Adding}
use Rattle.live.proofs.tally.sum_of.Given as goal

abbrev pub invariant-loop-i : goal.invariant-loop-i
invariant-loop-i l = Adding l.d (column_places l.elements l.cost l.period l.first l.second) l.s l.i l.total
