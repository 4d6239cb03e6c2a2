-- ring_plan_limited: number and place are those of the whole plan with limits, and so small that they fit one number.
use Rattle.rules.proofs.Small.{limited_small, plan_small}
use Rattle.supervisor.proofs.ring_plan_limited.Goals as goal

pub told-requires : goal.told-requires
told-requires c = plan_small _ _ _ _ _ (limited_small _ _ _ _ _) c.whole_plan.ensures.planned.answers
