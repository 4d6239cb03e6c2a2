-- put_way: a direction is one byte.
use Rattle.std.proofs.Common.{refl}
use Rattle.numbers.specs.Codec.{write_low}
use Rattle.writer.proofs.put_way.Goals as goal

pub returns : goal.returns
unfolding write_low
returns c = refl
