use Rattle.rules.specs.Calls.{lent}
use Rattle.text_reader.proofs.put_front.Goals as goal

pub returns : goal.returns
unfolding lent
returns c = rw c.copy_from_slice.ensures.after
