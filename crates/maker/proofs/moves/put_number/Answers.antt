-- put_number: no move, or one.
use Rattle.std.proofs.Common.{arith, ap, length}
use Rattle.rules.specs.ElementList.{in_memory}
use Rattle.maker.proofs.Words.{put_none, put_one}
use Rattle.maker.proofs.moves.put_number.Goals as goal

pub returns-then-word-eq0 : goal.returns-then-word-eq0
returns-then-word-eq0 c = put_none in_memory c.args.word c.args.slot c.args.way _ c.args.n c.args.out.now c.if-word-eq0.true

pub put_numbers-requires : goal.put_numbers-requires
put_numbers-requires c = omega (arith, ap length c.move_of.ensures.one, c.requires.2)

pub returns : goal.returns
returns c = put_one in_memory _ _ _ _ c.move_of.ensures c.put_numbers.ensures
