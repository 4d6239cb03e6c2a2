use Rattle.std.proofs.Common.{ℕ, ◌<◌}
use Rattle.numbers.specs.Lists.{at}
use Rattle.interval.proofs.choice.all_less.Given as goal

-- less than h is left of every set that is passed
abbrev pub invariant-loop-x : goal.invariant-loop-x
invariant-loop-x l = (k : ℕ) → k < l.x-index → at l.left k < l.h
