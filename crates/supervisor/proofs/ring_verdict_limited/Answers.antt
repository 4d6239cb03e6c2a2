-- ring_verdict_limited: number and place are those of the verdict with limits, and so small that they fit one number.
use Rattle.rules.proofs.Small.{limited_small}
use Rattle.supervisor.proofs.ring_verdict_limited.Goals as goal

pub told-requires : goal.told-requires
told-requires c = limited_small _ _ _ _ _ c.judge.ensures.answers
