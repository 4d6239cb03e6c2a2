-- read_version_1: what has one ring and version 1 is read as any file is.
use Rattle.reader.proofs.Calls.{other_refused, version_1_refused, version_1_else}
use Rattle.reader.proofs.read_version_1.Goals as goal

pub returns-then-has_other_mark : goal.returns-then-has_other_mark
returns-then-has_other_mark c =
    rw c.into.ensures (other_refused _ _ (c.has_other_mark.ensures.holds c.if-has_other_mark.true))

pub returns-then-is_labelled : goal.returns-then-is_labelled
returns-then-is_labelled c =
    rw c.into-then-is_labelled.ensures (version_1_refused _ _ (c.is_labelled.ensures.holds c.if-is_labelled.true))

pub returns : goal.returns
returns c =
    version_1_else _ _ _ _ _ _ _ _ _ (c.has_other_mark.ensures.fails c.if-has_other_mark.false)
    (c.is_labelled.ensures.fails c.if-is_labelled.false) c.read.ensures
