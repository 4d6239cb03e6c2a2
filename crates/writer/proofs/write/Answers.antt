-- write: a mark that is known tells how many rings there are.
use Rattle.rules.proofs.Rings.{rings_few}
use Rattle.writer.proofs.Calls.{mark_refused, mark_known}
use Rattle.writer.proofs.write.Goals as goal

pub returns-then-is_no_mark : goal.returns-then-is_no_mark
returns-then-is_no_mark c =
    rw c.into.ensures (mark_refused _ _ _ _ _ _ (c.is_no_mark.ensures.holds c.if-is_no_mark.true))

pub write_with-requires : goal.write_with-requires
write_with-requires c = rw c.rings_of.ensures (rings_few _)

pub returns : goal.returns
returns c =
    mark_known _ _ _ _ _ _ _ _ _ (c.is_no_mark.ensures.fails c.if-is_no_mark.false) (rw c.rings_of.ensures at c.write_with.ensures)
