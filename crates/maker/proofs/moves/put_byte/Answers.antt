-- put_byte: no move, or one.
use Rattle.std.proofs.Common.{arith, ap, length}
use Rattle.rules.specs.ElementList.{in_file}
use Rattle.maker.proofs.Words.{put_none, put_one}
use Rattle.maker.proofs.moves.put_byte.Goals as goal

pub returns-then-word-eq0 : goal.returns-then-word-eq0
returns-then-word-eq0 c = put_none in_file c.args.word c.args.slot c.args.way _ c.args.n c.args.out.now c.if-word-eq0.true

pub put_bytes-requires : goal.put_bytes-requires
put_bytes-requires c =
    let M = c.move_of.ensures in
    (omega (arith, ap length M.one, c.requires.3), omega (arith, M.row), omega (arith, M.way, c.requires.2))

pub returns : goal.returns
returns c = put_one in_file _ _ _ _ c.move_of.ensures c.put_bytes.ensures
