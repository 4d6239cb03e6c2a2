use lib.Dec.{eqb}
use Rattle.numbers.specs.Lists.{at}
use Rattle.numbers.proofs.Finite.{Sought}
use Rattle.outline.proofs.is_idle.Given as goal

-- no row before row i runs on the ring
abbrev pub invariant-loop-i : goal.invariant-loop-i
invariant-loop-i l = Sought l.rows (λ j. eqb (at l.way j) l.d) l.i
