-- `at` is the line and the column of the place that is reached.
use Rattle.std.proofs.Common.{◌≡◌}
use Rattle.text_reader.proofs.Spots.{spot_at}
use Rattle.text_reader.proofs.fields.spot_of.Given as goal

abbrev pub invariant-loop-b : goal.invariant-loop-b
invariant-loop-b l = l.at ≡ spot_at l.text l.b-index
