use Rattle.std.proofs.Common.{◌≤◌}
use Rattle.interval.proofs.Folding.{Folding}
use Rattle.interval.proofs.fold.fold_sets.Given as goal

-- the words up to k are folded; what is still to read is as it was
abbrev pub invariant-loop-k : goal.invariant-loop-k
invariant-loop-k l = record { low : l.low ≤ l.sets; folding : Folding l.sets l.low l.upper l.initial.words l.k l.words }
