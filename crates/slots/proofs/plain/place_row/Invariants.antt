-- place_row: row i has come to slot s.
use Rattle.numbers.specs.Lists.{at}
use Rattle.slots.proofs.PlainWalk.{Placing}
use Rattle.slots.proofs.plain.place_row.Given as goal

abbrev pub invariant-slots : goal.invariant-slots
invariant-slots l = Placing (at l.first) (at l.second) l.i l.load l.slots l.initial.words l.s l.left l.words
