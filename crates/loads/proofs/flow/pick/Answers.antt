-- `pick` finds the first digit in which the words differ.
use Rattle.loads.proofs.Words.{first_differ}
use Rattle.loads.proofs.flow.pick.Goals as goal

pub returns : goal.returns
returns c = first_differ 64 c.args.v c.args.w c.ranges.v.fits c.ranges.w.fits c.requires
