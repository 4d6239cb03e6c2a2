use Rattle.std.proofs.Common.{◌≡◌, ℕ, ◌<◌, length}
use lib.Dec.{T}
use Rattle.numbers.specs.Lists.{at}
use Rattle.numbers.specs.Word.{bit}
use Rattle.loads.specs.Network.{nodes_most}
use Rattle.loads.specs.Ranges.{lowest_set}
use Rattle.loads.proofs.Leaving.{Leaving}
use Rattle.loads.proofs.Sorted.{Sorted}
use Rattle.loads.proofs.nodes.put_starts.Given as goal

-- the rows of the sets up to k have their node
abbrev pub invariant-loop-k : goal.invariant-loop-k
invariant-loop-k l = record {
  leaving : Leaving l.rows (lowest_set l.sets l.words) (λ i. (j : ℕ) → j < l.k → T (bit (at l.words j) i) → ⊥) l.left l.tail;
  size : length l.out ≡ nodes_most;
  sorted : Sorted l.rows l.left l.tail (at l.out);
}
