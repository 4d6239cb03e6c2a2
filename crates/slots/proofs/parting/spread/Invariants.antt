-- spread: the stretches below slot s are spread.
use Rattle.std.proofs.Common.{ℕ, ◌-◌}
use Rattle.stretches.specs.Stretches.{Tiles}
use Rattle.stretches.proofs.Stretches.{Spreading}
use Rattle.slots.proofs.parting.spread.Given as goal

abbrev pub invariant-loop-s : goal.invariant-loop-s
invariant-loop-s l =
    (of begin : ℕ → ℕ) → Tiles l.slots of begin l.end l.after → Spreading l.slots of begin l.initial.words l.k l.s l.words

abbrev pub decreases-loop-s : goal.decreases-loop-s
decreases-loop-s l = l.slots - l.s
