-- new: 2 to 32 elements.
use Rattle.std.proofs.Common.{arith}
use Rattle.live.proofs.Answering.{new_refused, new_done}
use Rattle.live.proofs.Live.new.Goals as goal

pub returns-then-elements-lt2 : goal.returns-then-elements-lt2
returns-then-elements-lt2 c = rw c.into.ensures (new_refused _ (λ l h. omega (arith, l, c.if-elements-lt2.true)))

pub returns-then-elements-gt-ELEMENTS : goal.returns-then-elements-gt-ELEMENTS
returns-then-elements-gt-ELEMENTS c =
    rw c.into-then-elements-gt-ELEMENTS.ensures (new_refused _ (λ l h. omega (arith, h, c.if-elements-gt-ELEMENTS.true)))

pub returns : goal.returns
returns c =
    rw c.blank.ensures (new_done _ (omega (arith, c.if-elements-lt2.false)) (omega (arith, c.if-elements-gt-ELEMENTS.false)))
