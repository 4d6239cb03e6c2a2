-- fill: `Course` says what each of the loops keeps.
use Rattle.std.proofs.Common.{ℕ, ◌-◌}
use Rattle.numbers.specs.Lists.{at}
use Rattle.sets.specs.Chained.{ChainedRows}
use Rattle.sets.proofs.Chained.{rest}
use Rattle.placing.specs.Filled.{Kept}
use Rattle.stretches.proofs.Course.{Coming, Along, Turning}
use Rattle.slots.proofs.fill.Given as goal

abbrev pub invariant-loop-element : goal.invariant-loop-element
invariant-loop-element l =
    Kept l.slots l.fn.words l.words
    × ((n : ℕ) (f : ℕ → ℕ) → ChainedRows n f (at l.second) l.top l.head l.next
    → Coming n f (at l.second) (at l.load) l.slots l.element l.end l.last l.after l.words)

abbrev pub invariant-loop-r : goal.invariant-loop-r
invariant-loop-r l =
    Kept l.slots l.fn.words l.words
    × ((n : ℕ) (f : ℕ → ℕ) → ChainedRows n f (at l.second) l.top l.head l.next
    → Along n f (at l.second) (at l.load) l.slots l.element l.r l.k l.s l.end l.last l.after l.words)

abbrev pub decreases-loop-r : goal.decreases-loop-r
decreases-loop-r l = rest l.r

abbrev pub invariant-slots : goal.invariant-slots
invariant-slots l =
    Kept l.slots l.fn.words l.words
    × ((n : ℕ) (f : ℕ → ℕ) → ChainedRows n f (at l.second) l.top l.head l.next
    → Turning n f (at l.second) (at l.load) l.slots l.element l.i l.left l.k l.s l.end l.last l.after l.words)

abbrev pub decreases-slots : goal.decreases-slots
decreases-slots l = l.slots - l.s
