use Rattle.std.proofs.Common.{ℕ, ◌<◌, ◌≤◌}
use Rattle.numbers.specs.Lists.{at}
use Rattle.interval.proofs.choice.has_room.Given as goal

-- every set that is passed has room
abbrev pub invariant-loop-k : goal.invariant-loop-k
invariant-loop-k l = (q : ℕ) → q < l.k → l.from ≤ q → 0 < at l.left q
