-- count: the moves of the words before slot `slot`.
use Rattle.std.proofs.Common.{◌≡◌, ◌*◌, ◌≤◌, length}
use Rattle.maker.specs.Words.{plan_moves}
use Rattle.maker.proofs.moves.Picks.count.Given as goal

abbrev pub invariant-loop-slot : goal.invariant-loop-slot
invariant-loop-slot l = (l.n ≡ length (plan_moves l.self.into l.self.from l.slot l.plan)) × (l.n ≤ 2 * l.slot)
