-- repeat: the slots below s have the word.
use Rattle.stretches.specs.Stretches.{Repeated}
use Rattle.slots.proofs.parting.repeat.Given as goal

abbrev pub invariant-loop-s : goal.invariant-loop-s
invariant-loop-s l = Repeated l.from l.s l.initial.words l.words
