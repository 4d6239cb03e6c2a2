use Rattle.std.proofs.Common.{◌≡◌, ℕ, ◌≤◌, ◌<◌}
use Rattle.numbers.specs.Lists.{at}
use Rattle.planner.proofs.steady.spare_clear.Given as goal

-- the totals past the last row are 0 before place i
abbrev pub invariant-loop-i : goal.invariant-loop-i
invariant-loop-i l = (k : ℕ) → l.rows ≤ k → k < l.i → at l.totals k ≡ 0
