-- The rows before place i are put.
use Rattle.live.proofs.Present.{Packing}
use Rattle.live.proofs.files.put_present.Given as goal

abbrev pub invariant-loop-i : goal.invariant-loop-i
invariant-loop-i l = Packing l.cost l.period l.first l.second l.label l.initial.out l.out l.rows l.i
