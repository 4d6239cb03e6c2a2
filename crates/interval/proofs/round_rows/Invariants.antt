use Rattle.numbers.specs.Lists.{at}
use Rattle.loads.specs.Loads.{last}
use Rattle.interval.specs.Rings.{Chosen}
use Rattle.interval.proofs.round_rows.Given as goal

-- the rows of the rings up to d are chosen
abbrev pub invariant-loop-d : goal.invariant-loop-d
invariant-loop-d l = Chosen l.size.rows l.size.sets (at l.tail) (last l.head) l.size.hyper l.upper (at l.part) l.d l.rounded
