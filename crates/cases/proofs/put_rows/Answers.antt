-- put_rows: a row more.
use Rattle.std.proofs.Common.{ℕ, ◌+◌, ◌*◌, ap, arith}
use Rattle.numbers.proofs.Lists.{each_none}
use Rattle.decimal.proofs.Puts.{puts_none}
use Rattle.cases.proofs.Tables.{way_short, rows_next}
use Rattle.cases.proofs.put_rows.Goals as goal

pub loop-i-init : goal.loop-i-init
loop-i-init c = (omega arith, rw each_none (puts_none _ _))

pub loop-i-preserved : goal.loop-i-preserved
loop-i-preserved c = (
  omega (arith, c.put_row-next.ensures.after, c.put_way-next.ensures.after, way_short c.args.board c.number_at.result),
  rows_next c.args.board c.args.xs.now c.loop-i.i _ c.number_at.result
      (ap (λ (s : ℕ). 1 + s * c.loop-i.i) c.row_numbers-size.ensures.0) c.number_at.ensures c.loop-i.invariant.1
      c.put_row-next.ensures c.put_way-next.ensures,
)
