-- rows_split: row `i` becomes one row more, or two.
use Rattle.std.proofs.Common.{arith, length, ap, sym}
use Rattle.table.specs.Columns.{table_of}
use Rattle.rules.specs.Relay.{row_of}
use Rattle.relay.proofs.Rows.{rows_none, stands_more}
use Rattle.relay.proofs.rows_split.Goals as goal

pub loop-i-init : goal.loop-i-init
loop-i-init c = (sym (ap length (rows_none (table_of c.args.given.now) c.args.relay)), omega arith)

pub loop-i-preserved : goal.loop-i-preserved
loop-i-preserved c =
    let t = table_of c.args.given.now in
    let r = c.args.relay in
    let i = c.loop-i.i in
    let more = stands_more t r i (row_of t i) c.goes.ensures in
    let new = c.parts-rows.ensures in
    (omega (arith, more, c.loop-i.invariant.0, new.0 r (row_of t i)), omega (arith, new.1))
