-- `low_sets` has passed sets that have none of the rows.
use Rattle.std.proofs.Common.{◌≡◌, not, ap, ◌∙◌, arith}
use borrow.Author.Tests.{ne_eqb}
use Rattle.numbers.proofs.Finite.{sought_found, sought_end}
use Rattle.interval.proofs.Folding.{low_front}
use Rattle.interval.proofs.fold.low_sets.Goals as goal

pub returns-then-words-k-ne0 : goal.returns-then-words-k-ne0
returns-then-words-k-ne0 c =
    let a = c.args in
    sought_found c.loop-k.invariant c.loop-k-test.true (ap not (ne_eqb _ 0 c.if-words-k-ne0.true))
    ∙ low_front a.sets a.upper a.words.now (omega (arith, c.requires))

pub returns : goal.returns
returns c =
    let a = c.args in
    let e : c.loop-k.k ≡ a.sets = omega arith in
    rw e at (sought_end c.loop-k.invariant (omega arith)) ∙ low_front a.sets a.upper a.words.now (omega (arith, c.requires))
