-- ring_sets: number and place are those of the list of sets, and so small that they fit one number.
use Rattle.supervisor.proofs.Small.{sets_small}
use Rattle.supervisor.proofs.ring_sets.Goals as goal

pub told-requires : goal.told-requires
told-requires c = sets_small _ _ _ _ c.list_of_sets.ensures.answers
