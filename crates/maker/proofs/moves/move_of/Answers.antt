-- move_of: the word's one row is its lowest.
use Rattle.std.proofs.Common.{refl}
use Rattle.numbers.proofs.Truth.{of_true}
use Rattle.maker.proofs.Words.{picked_one}
use Rattle.maker.proofs.moves.move_of.Goals as goal

pub returns : goal.returns
returns c =
    let a = c.args in
    let l = c.lowest_row.ensures in
    record { one = picked_one a.word a.slot a.way _ c.requires.0 l.0 (of_true l.1); row = l.0; way = refl }
