use Rattle.std.proofs.Common.{arith}
use Rattle.table.proofs.ByRow.{by_row_start}
use Rattle.ring.proofs.Rows.{cut_element}
use Rattle.ring.proofs.lay.Goals as goal

pub loop-i-init : goal.loop-i-init
loop-i-init c = record { starts = by_row_start _; ends = by_row_start _ }

pub row_element-requires : goal.row_element-requires
row_element-requires c =
    let R = c.requires.0.routes in (
      R.small,
      omega (arith, R.ways c.loop-i.i (omega arith)),
      rw c.cut_of-from.ensures (cut_element c.way_at-d.result c.requires.1 c.requires.2),
      rw c.end_at.ensures (R.starts c.loop-i.i (omega arith)),
    )

pub row_end-requires : goal.row_end-requires
row_end-requires c =
    let R = c.requires.0.routes in (
      R.small,
      omega (arith, R.ways c.loop-i.i (omega arith)),
      rw c.cut_of-from.ensures (cut_element c.way_at-d.result c.requires.1 c.requires.2),
      rw c.end_at-in-loop-i.ensures (R.ends c.loop-i.i (omega arith)),
    )
