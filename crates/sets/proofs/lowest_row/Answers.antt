-- lowest_row: the lowest bit of a word is one of its bits.
use Rattle.sets.proofs.Sums.{lowest_bit}
use Rattle.sets.proofs.lowest_row.Goals as goal

pub returns : goal.returns
returns c = lowest_bit 64 c.args.word c.ranges.word.fits c.requires
