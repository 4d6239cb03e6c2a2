-- ring_values: number and place are those of the values, and so small that they fit one number.
use Rattle.supervisor.proofs.Small.{values_small}
use Rattle.supervisor.proofs.ring_values.Goals as goal

pub told-requires : goal.told-requires
told-requires c = values_small _ _ _ _ c.fill_values.ensures.answers
