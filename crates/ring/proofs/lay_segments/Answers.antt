use Rattle.std.proofs.Common.{arith}
use Rattle.table.proofs.ByRow.{by_row_start, by_row_put}
use Rattle.ring.proofs.lay_segments.Goals as goal

pub loop-i-init : goal.loop-i-init
loop-i-init c = by_row_start _

pub loop-i-preserved : goal.loop-i-preserved
loop-i-preserved c = by_row_put _ c.loop-i.invariant (omega arith) c.segments_at.ensures
