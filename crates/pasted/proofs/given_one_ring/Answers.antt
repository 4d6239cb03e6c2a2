-- given_one_ring: 2 for another mark; else the table as it is given.
use Rattle.pasted.proofs.OneRing.{given_other, given_own}
use Rattle.pasted.proofs.given_one_ring.Goals as goal

pub returns-then-has_other_mark : goal.returns-then-has_other_mark
returns-then-has_other_mark c =
    rw c.from.ensures
    (record { answers = given_other _ (c.has_other_mark.ensures.holds c.if-has_other_mark.true); passed = tt; labelled = tt })

pub returns : goal.returns
returns c = given_own _ _ (c.has_other_mark.ensures.fails c.if-has_other_mark.false) c.given.ensures
