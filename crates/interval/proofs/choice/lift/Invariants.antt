use Rattle.std.proofs.Common.{◌≡◌, length}
use Rattle.numbers.specs.Lists.{at}
use Rattle.rules.specs.Bounds.{max_elements}
use Rattle.interval.specs.Taken.{Lifted}
use Rattle.interval.proofs.choice.lift.Given as goal

-- the sums up to k are lifted
abbrev pub invariant-loop-k : goal.invariant-loop-k
invariant-loop-k l = record { size : length l.sum ≡ max_elements; lifted : Lifted (at l.initial.sum) (at l.sum) l.from l.k l.v }
