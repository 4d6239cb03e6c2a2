-- find_cut: the elements before the cut are shown as ones, and the cut as a zero.
use Rattle.std.proofs.Common.{◌<◌, arith}
use Rattle.ring.proofs.Cut.{ones, found_cut, found_none}
use Rattle.ring.proofs.find_cut.Goals as goal

pub returns-then-e-table : goal.returns-then-e-table
returns-then-e-table c =
    let w = c.through_rows-word in
    found_none _ _ w.type_inv w.ensures (omega (arith, c.trailing_ones.ensures, c.if-e-table.true))

pub returns : goal.returns
returns c =
    let w = c.through_rows-word in
    let l : ones w.result < c.args.table.now.elements = omega (arith, c.trailing_ones.ensures, c.if-e-table.false) in
    (omega (arith, c.trailing_ones.ensures, found_cut _ _ w.type_inv w.ensures l), c.if-e-table.false)
