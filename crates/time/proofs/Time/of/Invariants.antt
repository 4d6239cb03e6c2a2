use Rattle.numbers.specs.Lists.{at}
use Rattle.time.proofs.Periods.{Clocking}
use Rattle.time.proofs.Time.of.Given as goal

-- h, the leading periods and those met are of the rows before row i
abbrev pub invariant-loop-i : goal.invariant-loop-i
invariant-loop-i l = Clocking l.rows (at l.period) l.i l.h l.count l.kept l.met
