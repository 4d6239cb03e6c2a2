use Rattle.std.proofs.Common.{arith}
use lib.Pow.{pow_mono}
use Rattle.ring.proofs.Words.{segments_word, segments_fit}
use Rattle.ring.proofs.segments.Goals as goal

pub overflow_cast-result : goal.overflow_cast-result
overflow_cast-result c =
    let z = c.args in
    omega (arith, segments_word z.m z.from z.to c.uses-word.ensures c.stretch.ensures, segments_fit z.m z.from z.to, pow_mono c.requires.0)

pub returns : goal.returns
returns c = segments_word _ _ _ c.uses-word.ensures c.stretch.ensures
