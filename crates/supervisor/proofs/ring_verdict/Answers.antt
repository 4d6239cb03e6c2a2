-- ring_verdict: number and place are the verdict's, and so small that they fit one number.
use Rattle.rules.proofs.Small.{verdict_small}
use Rattle.supervisor.proofs.ring_verdict.Goals as goal

pub told-requires : goal.told-requires
told-requires c = verdict_small _ _ _ c.judge.ensures.answers
