-- find: the byte stands at none of the places passed.
use Rattle.std.proofs.Common.{ℕ, ◌≤◌, ◌<◌, ◌≢◌}
use Rattle.numbers.specs.Lists.{at}
use Rattle.cases.proofs.find.Given as goal

abbrev pub invariant-loop-i : goal.invariant-loop-i
invariant-loop-i l = (k : ℕ) → l.from ≤ k → k < l.i → at l.text k ≢ l.byte
