use Rattle.std.proofs.Common.{◌≡◌, true, not, ℕ}
use Rattle.numbers.specs.Finite.{count}
use Rattle.numbers.specs.Word.{bit}
use Rattle.loads.specs.Ranges.{Marked}
use Rattle.loads.proofs.nodes.put.Given as goal

-- the rows in `done` are written
abbrev pub invariant-loop-done : goal.invariant-loop-done
invariant-loop-done l = record {
  some : (i : ℕ) → bit l.done i ≡ true → bit l.rows i ≡ true;
  marked : Marked l.done l.v l.initial.to l.to;
}

abbrev pub decreases-loop-done : goal.decreases-loop-done
decreases-loop-done l = count 64 (λ i. not (bit l.done i))
