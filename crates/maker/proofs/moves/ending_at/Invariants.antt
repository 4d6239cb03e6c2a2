-- ending_at: the word of those before row `i`.
use Rattle.std.proofs.Common.{◌≡◌}
use Rattle.numbers.specs.Lists.{at}
use Rattle.maker.specs.Words.{ending_at}
use Rattle.maker.proofs.moves.ending_at.Given as goal

abbrev pub invariant-loop-i : goal.invariant-loop-i
invariant-loop-i l = l.word ≡ ending_at l.i (at l.ends) l.element
