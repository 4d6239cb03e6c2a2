-- lowered: the divisors with the periods before come in one by one.
use Rattle.std.proofs.Common.{arith}
use Rattle.time.proofs.Periods.{nearing_next, nearing_row}
use Rattle.time.proofs.lowered.Goals as goal

pub loop-j-preserved : goal.loop-j-preserved
loop-j-preserved c n P N l =
    rw c.min-least.ensures
    (nearing_next P (c.loop-j.invariant n P N l) l (omega arith)
    (rw (c.slots_at-own.ensures, c.slots_at.ensures) at c.gcd_of.ensures))

pub returns : goal.returns
returns c n P N l = nearing_row P (c.loop-j.invariant n P N l) l (omega arith)
