use Rattle.std.proofs.Common.{◌≡◌, ℕ, suc, ◌≤◌, ◌<◌, length}
use lib.Dec.{T}
use Rattle.numbers.specs.Lists.{at}
use Rattle.numbers.specs.Word.{bit}
use Rattle.loads.specs.Network.{nodes_most}
use Rattle.loads.specs.Ranges.{highest_set}
use Rattle.loads.proofs.Leaving.{Leaving}
use Rattle.loads.proofs.Sorted.{Sorted}
use Rattle.loads.proofs.nodes.put_stops.Given as goal

-- the rows of the sets from k on have their node
abbrev pub invariant-loop-k : goal.invariant-loop-k
invariant-loop-k l = record {
  leaving : Leaving l.rows (λ i. suc (highest_set l.sets l.words i))
      (λ i. (j : ℕ) → l.k ≤ j → j < l.sets → T (bit (at l.words j) i) → ⊥) l.left l.head;
  size : length l.into ≡ nodes_most;
  sorted : Sorted l.rows l.left l.head (at l.into);
}
