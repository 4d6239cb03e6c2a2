-- write_plain: the mark of one ring is known.
use Rattle.std.proofs.Common.{refl}
use Rattle.rules.specs.TableFile.{rings_of}
use Rattle.writer.proofs.Calls.{mark_known}
use Rattle.writer.proofs.write_plain.Goals as goal

pub returns : goal.returns
unfolding rings_of
returns c = mark_known _ _ _ _ _ _ _ _ _ (λ w. w.0 refl) c.write_with.ensures
