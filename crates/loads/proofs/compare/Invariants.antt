use Rattle.std.proofs.Common.{◌≡◌, suc, ◌+◌, bit_and}
use lib.Count.{ones}
use Rattle.numbers.specs.Lists.{at}
use Rattle.numbers.specs.Word.{word}
use Rattle.loads.specs.State.{over}
use Rattle.loads.proofs.Comparing.{takes, gives, lacks}
use Rattle.loads.proofs.compare.Given as goal

-- the words of the sets up to k, and the rows of the set before it
abbrev pub invariant-loop-k : goal.invariant-loop-k
invariant-loop-k l = record {
  more : l.more ≡ word (l.k + 1) (takes l.h (λ q. ones (bit_and l.top (over (at l.out) (at l.into) (suc q)))) (at l.sum));
  less : l.less ≡ word l.k (gives l.h (λ q. ones (bit_and l.top (over (at l.out) (at l.into) (suc q)))) (at l.sum));
  low : l.low ≡ word l.k (lacks l.h (λ q. ones (bit_and l.top (over (at l.out) (at l.into) (suc q)))) (at l.sum));
  rows : l.rows ≡ over (at l.out) (at l.into) l.k;
}
