use Rattle.std.proofs.Common.{◌≡◌, ℕ, suc, ◌-◌, ◌/◌, bit_and}
use lib.Count.{ones}
use Rattle.numbers.specs.Finite.{sum}
use Rattle.numbers.specs.Lists.{at}
use Rattle.loads.specs.State.{over, Asked, State}
use Rattle.loads.proofs.mend.Given as goal

-- no row and no set is above its part rounded up
abbrev pub invariant-loop-low : goal.invariant-loop-low
invariant-loop-low l = record {
  low : l.low ≡ l.s.low;
  state : (f : ℕ → ℕ) → Asked l.size.rows l.size.sets l.size.hyper l.tail l.head l.out l.into l.sum f
      → State l.size.rows l.size.sets l.size.hyper l.tail l.head f l.fn.start
      → State l.size.rows l.size.sets l.size.hyper l.tail l.head f l.s;
}

-- how much the sets need still
abbrev pub decreases-loop-low : goal.decreases-loop-low
decreases-loop-low l =
    sum l.size.sets (λ k. at l.sum k / l.size.hyper - ones (bit_and l.s.top (over (at l.out) (at l.into) (suc k))))
