-- ring_raise: number and place are those of raising, and so small that they fit one number.
use Rattle.supervisor.proofs.Small.{raise_small}
use Rattle.supervisor.proofs.ring_raise.Goals as goal

pub told-requires : goal.told-requires
told-requires c = raise_small _ _ _ _ c.raise.ensures.answers
