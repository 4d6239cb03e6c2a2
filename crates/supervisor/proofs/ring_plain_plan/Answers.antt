-- ring_plain_plan: number and place are the plain plan's, and so small that they fit one number.
use Rattle.rules.proofs.Small.{verdict_small, plan_small}
use Rattle.supervisor.proofs.ring_plain_plan.Goals as goal

pub told-requires : goal.told-requires
told-requires c = plan_small _ _ _ _ _ (verdict_small _ _ _) c.plain_plan.ensures.planned.answers
