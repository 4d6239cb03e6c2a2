use Rattle.std.proofs.Common.{◌≡◌, arith}
use Rattle.ring.specs.Rows.{rings_of}
use Rattle.ring.proofs.Cut.{ring_through, shows_none, shows_next, shows_clear}
use Rattle.ring.proofs.through_rows.Goals as goal

pub loop-i-init : goal.loop-i-init
loop-i-init c = shows_none _ _

pub loop-i-preserved : goal.loop-i-preserved
loop-i-preserved c =
    let t = c.args.table.now in
    shows_next c.loop-i.i (ring_through (rings_of t t.rows) c.args.d) c.loop-i.invariant
    (rw (c.way_at.ensures, c.end_at.ensures, c.end_at-in-loop-i.ensures) at c.through_row-word.ensures)

pub returns : goal.returns
returns c =
    let t = c.args.table.now in
    let all : c.loop-i.i ≡ t.rows = omega arith in
    shows_clear (rings_of t t.rows) c.args.d (rw all at c.loop-i.invariant)
