-- multiple_past: the first multiple goes up the periods.
use Rattle.std.proofs.Common.{arith}
use Rattle.numbers.proofs.Divisors.{past_one, past_next}
use Rattle.time.proofs.multiple_past.Goals as goal

pub loop-k-init : goal.loop-k-init
loop-k-init c =
    let P = c.requires.0 in
    rw (c.after-end.ensures, c.slots_at.ensures) (past_one _ c.args.slot (P.low 0 P.some))

pub loop-k-preserved : goal.loop-k-preserved
loop-k-preserved c =
    rw (c.min-end.ensures, c.after.ensures, c.slots_at-in-loop-k.ensures)
    (past_next c.loop-k.invariant (c.requires.0.low c.loop-k.k (omega arith)))
