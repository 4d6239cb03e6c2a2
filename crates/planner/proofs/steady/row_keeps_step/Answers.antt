-- row_keeps_step: a total above the slot can't be rounded.
use Rattle.std.proofs.Common.{arith}
use Rattle.numbers.proofs.Truth.{decides_no}
use Rattle.planner.proofs.Keeping.{rounded_le}
use Rattle.planner.proofs.steady.row_keeps_step.Goals as goal

pub returns-then-total-slot : goal.returns-then-total-slot
returns-then-total-slot c =
    decides_no (λ r. omega (arith, c.if-total-slot.true, rounded_le c.requires.0 c.requires.3 r))
