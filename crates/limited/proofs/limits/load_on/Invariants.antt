-- The rows before row i are added.
use Rattle.std.proofs.Common.{◌≡◌}
use Rattle.limited.specs.Limits.{weight_on}
use Rattle.limited.proofs.limits.load_on.Given as goal

abbrev pub invariant-loop-i : goal.invariant-loop-i
invariant-loop-i l = l.sum ≡ weight_on l.i l.rate l.segments l.label l.theirs l.s
