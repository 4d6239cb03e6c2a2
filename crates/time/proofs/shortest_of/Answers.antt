-- shortest_of: the least divisor goes up the periods.
use Rattle.std.proofs.Common.{arith}
use Rattle.time.proofs.Periods.{nearing_start}
use Rattle.time.proofs.shortest_of.Goals as goal

pub loop-i-init : goal.loop-i-init
loop-i-init c = rw c.slots_at-l.ensures (nearing_start c.requires)

pub loop-i-preserved : goal.loop-i-preserved
loop-i-preserved c = c.lowered-l.ensures c.args.count c.requires c.loop-i.invariant (omega arith)
