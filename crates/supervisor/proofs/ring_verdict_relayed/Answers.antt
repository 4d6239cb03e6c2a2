-- ring_verdict_relayed: number and place are those of the verdict with a relay, and so small that they fit one number.
use Rattle.rules.proofs.Small.{relayed_small}
use Rattle.supervisor.proofs.ring_verdict_relayed.Goals as goal

pub told-requires : goal.told-requires
told-requires c = relayed_small _ _ _ _ c.judge.ensures.answers
