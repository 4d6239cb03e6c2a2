use Rattle.std.proofs.Common.{◌≡◌, not, ℕ, ◌<◌, length}
use Rattle.numbers.specs.Finite.{count}
use Rattle.numbers.specs.Lists.{at}
use Rattle.numbers.specs.Word.{bit}
use Rattle.rules.specs.Bounds.{max_elements}
use Rattle.loads.specs.Loads.{last, Spans, Parts, Summed}
use Rattle.interval.specs.Taken.{Uneven}
use Rattle.interval.proofs.Taking.{Tried}
use Rattle.interval.proofs.choice.take_rows.Given as goal

-- `Tried` says what is kept of the rows in `done`
abbrev pub invariant-loop-done : goal.invariant-loop-done
invariant-loop-done l = record {
  size : length l.left ≡ max_elements;
  tried : (n K : ℕ) (f : ℕ → ℕ) (S : Spans n K (at l.tail) (last l.head)) → ((i : ℕ) → i < n → 0 < at l.head i) → (P : Parts n l.h f)
      → (U : Uneven n f l.rows) → Summed n K (at l.tail) (last l.head) f (at l.initial.left)
      → Tried n K (at l.tail) (last l.head) l.h f S P l.rows U l.done l.top (at l.left);
}

abbrev pub decreases-loop-done : goal.decreases-loop-done
decreases-loop-done l = count 64 (λ i. not (bit l.done i))
