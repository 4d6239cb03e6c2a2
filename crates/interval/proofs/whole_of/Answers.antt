-- `whole_of` multiplies, and drops the lowest digits.
use Rattle.interval.proofs.Shares.{whole_is}
use Rattle.interval.proofs.whole_of.Goals as goal

pub returns : goal.returns
returns c h some short I = whole_is h c.args.inverse c.args.share some short I c.requires.1
