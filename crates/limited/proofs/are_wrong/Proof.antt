-- are_wrong: one test after the other.
use borrow.Author.Tests.{lt-ltb, le-ltb}
use Rattle.limited.proofs.are_wrong.Statement.{statement}
use Rattle.limited.proofs.are_wrong.Tie as tie

returns : tie.Need-returns-then-limits-gt-MOST
returns c = simp (lt-ltb _ _ c.if-limits-gt-MOST.true)

returns-2 : tie.Need-returns-else-limits-gt-MOST
returns-2 c = simp (le-ltb _ _ c.if-limits-gt-MOST.false)

pub are_wrong_spec : {M : Type 1} → statement M
are_wrong_spec = tie.close (tie.spec returns returns-2)
