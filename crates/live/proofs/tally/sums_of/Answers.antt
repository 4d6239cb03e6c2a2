-- `tally::sums_of` meets its contract: segment after segment is summed.
use Rattle.std.proofs.Common.{[], arith}
use Rattle.live.proofs.Sums.{summed_start, summed_next, summed_end}
use Rattle.live.proofs.tally.sums_of.Goals as goal

pub loop-s-init : goal.loop-s-init
loop-s-init c label = summed_start

pub loop-s-preserved : goal.loop-s-preserved
loop-s-preserved c label = summed_next _ (c.loop-s.invariant label) (omega (arith, c.requires.1.small)) (c.sum_of.ensures label)

pub returns : goal.returns
returns c = let L = c.loop-s.invariant in ((L []).size, λ label. summed_end _ _ (L label) (omega arith))
