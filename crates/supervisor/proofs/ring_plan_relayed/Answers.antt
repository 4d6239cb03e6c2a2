-- ring_plan_relayed: number and place are those of the whole plan with a relay, and so small that they fit one number.
use Rattle.rules.proofs.Small.{relayed_small, plan_small}
use Rattle.supervisor.proofs.ring_plan_relayed.Goals as goal

pub told-requires : goal.told-requires
told-requires c = plan_small _ _ _ _ _ (relayed_small _ _ _ _) c.whole_plan.ensures.planned.answers
