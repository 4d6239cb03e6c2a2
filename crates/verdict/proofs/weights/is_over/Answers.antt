-- is_over: the comparison is document 01's.
use Rattle.rules.specs.Loads.{past}
use Rattle.verdict.proofs.weights.is_over.Goals as goal

pub returns-then-equal : goal.returns-then-equal
unfolding past
returns-then-equal c = rw c.if-equal.true

pub returns : goal.returns
unfolding past
returns c = rw c.if-equal.false
