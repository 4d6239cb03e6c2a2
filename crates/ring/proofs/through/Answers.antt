use Rattle.ring.proofs.Cut.{stretch_shows}
use Rattle.ring.proofs.through.Goals as goal

pub returns : goal.returns
returns c = stretch_shows 1 c.requires.1 c.requires.2 (rw c.steps.ensures.0 at c.stretch.ensures)
