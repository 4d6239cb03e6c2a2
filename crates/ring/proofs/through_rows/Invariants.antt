-- The word shows the elements that the rows before row `i` go through.
use Rattle.numbers.specs.Finite.{any}
use Rattle.ring.specs.Route.{Shows}
use Rattle.ring.specs.Rows.{rings_of}
use Rattle.ring.proofs.Cut.{ring_through}
use Rattle.ring.proofs.through_rows.Given as goal

abbrev pub invariant-loop-i : goal.invariant-loop-i
invariant-loop-i l =
    Shows l.table.elements l.word (λ e. any l.i (λ k. ring_through (rings_of l.table l.table.rows) l.d k e))
