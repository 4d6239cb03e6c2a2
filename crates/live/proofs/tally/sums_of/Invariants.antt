-- The segments before s + 1 are summed.
use Rattle.std.proofs.Common.{List, ℕ}
use Rattle.rules.specs.Live.{sum_over}
use Rattle.live.specs.Tally.{column_live}
use Rattle.live.proofs.Sums.{SummedTo}
use Rattle.live.proofs.tally.sums_of.Given as goal

abbrev pub invariant-loop-s : goal.invariant-loop-s
invariant-loop-s l =
    (label : List ℕ) → SummedTo (sum_over l.d (column_live l.elements l.cost l.period l.first l.second label)) l.s l.sums
