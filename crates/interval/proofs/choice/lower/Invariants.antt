use Rattle.std.proofs.Common.{◌≡◌, length}
use Rattle.numbers.specs.Lists.{at}
use Rattle.rules.specs.Bounds.{max_elements}
use Rattle.interval.specs.Taken.{Lowered}
use Rattle.interval.proofs.choice.lower.Given as goal

-- the sets up to k are lowered
abbrev pub invariant-loop-k : goal.invariant-loop-k
invariant-loop-k l = record { size : length l.left ≡ max_elements; lowered : Lowered (at l.initial.left) (at l.left) l.from l.k l.h }
