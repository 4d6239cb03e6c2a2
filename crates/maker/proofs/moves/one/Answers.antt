-- one: the entry of the word's bit, if it has one.
use Rattle.std.proofs.Common.{arith, sym, ap, length}
use Rattle.maker.proofs.Words.{some_bit, picked_none, picked_one}
use Rattle.maker.proofs.moves.one.Goals as goal

pub returns-then-word-eq0 : goal.returns-then-word-eq0
returns-then-word-eq0 c = (λ s d. rw (c.if-word-eq0.true, picked_none s d), omega arith)

pub returns : goal.returns
returns c =
    let b = some_bit c.args.word (omega (arith, c.ranges.word)) c.if-word-eq0.false in
    (λ s d. sym (ap length (picked_one c.args.word s d b.0 c.requires b.1 b.2)), omega arith)
