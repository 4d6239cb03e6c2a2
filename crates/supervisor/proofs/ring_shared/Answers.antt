-- ring_shared: number and place are those of the segments, and so small that they fit one number; only where nothing is refused is the word
-- written.
use Rattle.rules.proofs.Small.{shared_small}
use Rattle.supervisor.proofs.ring_shared.Goals as goal

pub told-answer-requires : goal.told-answer-requires
told-answer-requires c = shared_small _ _ _ _ _ c.meet-found.ensures.answers
