use Rattle.numbers.specs.Lists.{at}
use Rattle.verdict.specs.Weights.{SumsAt}
use Rattle.verdict.proofs.weights.rates_at.Given as goal

-- the sums are of the rows before row i
abbrev pub invariant-loop-i : goal.invariant-loop-i
invariant-loop-i l = SumsAt l.i (at l.first) (at l.rate) l.joining × SumsAt l.i (at l.second) (at l.rate) l.leaving
