use Rattle.std.proofs.Common.{◌≡◌, true, not, ℕ, ◌<◌, length}
use Rattle.numbers.specs.Finite.{count}
use Rattle.numbers.specs.Lists.{at}
use Rattle.numbers.specs.Word.{bit}
use Rattle.rules.specs.Bounds.{max_elements}
use Rattle.loads.specs.Loads.{last, among, Spans, Summed}
use Rattle.interval.proofs.choice.add_parts.Given as goal

-- the parts of the rows in `done` are added
abbrev pub invariant-loop-done : goal.invariant-loop-done
invariant-loop-done l = record {
  size : length l.sum ≡ max_elements;
  some : (i : ℕ) → bit l.done i ≡ true → bit l.rows i ≡ true;
  summed : (n K : ℕ) → Spans n K (at l.tail) (last l.head) → ((i : ℕ) → i < n → 0 < at l.head i)
      → ((i : ℕ) → bit l.rows i ≡ true → i < n) → Summed n K (at l.tail) (last l.head) (among l.done (at l.part)) (at l.sum);
}

abbrev pub decreases-loop-done : goal.decreases-loop-done
decreases-loop-done l = count 64 (λ i. not (bit l.done i))
