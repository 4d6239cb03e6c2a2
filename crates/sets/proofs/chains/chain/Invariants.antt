-- chain: the rows from row i on are chained.
use Rattle.numbers.specs.Lists.{at}
use Rattle.sets.specs.Chained.{ChainedFrom}
use Rattle.sets.proofs.chains.chain.Given as goal

abbrev pub invariant-loop-i : goal.invariant-loop-i
invariant-loop-i l = ChainedFrom l.rows (at l.first) l.i l.head l.next
