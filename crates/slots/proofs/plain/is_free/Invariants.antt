-- is_free: no row that has been asked overlaps row i.
use Rattle.std.proofs.Common.{◌≡◌, ℕ, true, false, not}
use Rattle.numbers.specs.Finite.{count}
use Rattle.numbers.specs.Lists.{at}
use Rattle.numbers.specs.Word.{bit}
use Rattle.rules.specs.Line.{meet}
use Rattle.slots.proofs.plain.is_free.Given as goal

abbrev pub invariant-loop-asked : goal.invariant-loop-asked
invariant-loop-asked l =
    (j : ℕ) → bit l.asked j ≡ true → (bit l.word j ≡ true) × (meet (at l.first) (at l.second) j l.i ≡ false)

abbrev pub decreases-loop-asked : goal.decreases-loop-asked
decreases-loop-asked l = count 64 (λ j. not (bit l.asked j))
