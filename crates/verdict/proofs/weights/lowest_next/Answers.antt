-- lowest_next: `n` is the next to be found only where nothing below it was.
use borrow.Author.Tests.{eq-eqb, ne_eqb}
use Rattle.verdict.specs.Weights.{next_lowest}
use Rattle.verdict.proofs.weights.lowest_next.Goals.{else-found-n-via-then-found-n+else-not-passes, else-found-n-via-else-found-n}
use Rattle.verdict.proofs.weights.lowest_next.Goals as goal

pub returns-then-not-passes : goal.returns-then-not-passes
unfolding next_lowest
returns-then-not-passes c = simp (eq-eqb _ _ c.if-found-n.true, c.if-not-passes.true)

pub returns-else-found-n : goal.returns-else-found-n
unfolding next_lowest
returns-else-found-n c =
    elim c.else-found-n.branch [
      | else-found-n-via-then-found-n+else-not-passes w ↦ simp (eq-eqb _ _ w.if-found-n.true, w.if-not-passes.false)
      | else-found-n-via-else-found-n w ↦ simp (ne_eqb _ _ w.if-found-n.false)
    ]
