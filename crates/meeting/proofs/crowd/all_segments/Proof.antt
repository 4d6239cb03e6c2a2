-- `crowd::all_segments` meets its contract: a ring has no more segments than the word has bits.
use native.Mathlib.Omega.{arith}
use borrow.Author.Rules.{rules}
use lib.Pow.{pow_mono}
use Rattle.meeting.proofs.Left.{stretch_fits}
use Rattle.meeting.proofs.crowd.all_segments.Statement.{statement}
use Rattle.meeting.proofs.crowd.all_segments.Tie as tie

stretch-requires : tie.Need-stretch-requires
stretch-requires c κs = search rules

cast-result : tie.Need-overflow_cast-result
cast-result c = omega (arith, stretch_fits c.stretch.ensures, pow_mono c.requires)

returns : tie.Need-returns
returns c = search rules

pub all_segments_spec : {M : Type 1} → statement M
all_segments_spec = tie.close (tie.spec stretch-requires cast-result returns)
