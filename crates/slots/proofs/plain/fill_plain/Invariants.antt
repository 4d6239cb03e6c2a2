-- fill_plain: rows have their slots up to an element, and of those that start there up to the row that r links to.
use Rattle.std.proofs.Common.{ℕ}
use Rattle.numbers.specs.Lists.{at}
use Rattle.sets.specs.Chained.{ChainedRows}
use Rattle.sets.proofs.Chained.{rest}
use Rattle.placing.specs.Filled.{Kept}
use Rattle.slots.proofs.PlainWalk.{Coming, Along}
use Rattle.slots.proofs.plain.fill_plain.Given as goal

abbrev pub invariant-loop-element : goal.invariant-loop-element
invariant-loop-element l =
    Kept l.slots l.fn.words l.words
    × ((n : ℕ) → ChainedRows n (at l.first) (at l.second) l.top l.head l.next
    → Coming n (at l.first) (at l.second) (at l.load) l.slots l.element l.words)

abbrev pub invariant-loop-r : goal.invariant-loop-r
invariant-loop-r l =
    Kept l.slots l.fn.words l.words
    × ((n : ℕ) → ChainedRows n (at l.first) (at l.second) l.top l.head l.next
    → Along n (at l.first) (at l.second) (at l.load) l.slots l.element l.r l.words)

abbrev pub decreases-loop-r : goal.decreases-loop-r
decreases-loop-r l = rest l.r
