use Rattle.std.proofs.Common.{◌≡◌, true, not, ℕ, length}
use Rattle.numbers.specs.Finite.{count}
use Rattle.numbers.specs.Lists.{at}
use Rattle.numbers.specs.Word.{bit}
use Rattle.loads.specs.Network.{nodes_most}
use Rattle.loads.specs.Way.{Visited}
use Rattle.loads.proofs.flow.visit.Given as goal

-- the far ends of the rows in `done` are seen
abbrev pub invariant-loop-done : goal.invariant-loop-done
invariant-loop-done l = record {
  size : length l.by ≡ nodes_most;
  some : (i : ℕ) → bit l.done i ≡ true → bit l.rows i ≡ true;
  visited : Visited 64 (bit l.done) (at l.far) l.way l.seen l.all (at l.initial.by) (at l.by);
}

abbrev pub decreases-loop-done : goal.decreases-loop-done
decreases-loop-done l = count 64 (λ i. not (bit l.done i))
