-- The bytes passed are digits, and `x` is what they show.
use Rattle.text_reader.proofs.Numbers.{Summed}
use Rattle.text_reader.proofs.fields.number.Given as goal

abbrev pub invariant-loop-b : goal.invariant-loop-b
invariant-loop-b l = Summed l.digits l.b-index l.x
