-- split_at: what row `i` becomes, after what those before it become.
use Rattle.std.proofs.Common.{arith}
use Rattle.table.specs.Columns.{table_of}
use Rattle.rules.specs.Relay.{split_rows}
use Rattle.relay.specs.Splitting.{numbers_of}
use Rattle.relay.proofs.Rows.{rows_none, rows_next}
use Rattle.relay.proofs.Columns.{fits_row, room_for}
use Rattle.relay.proofs.split_at.Goals as goal

pub loop-i-init : goal.loop-i-init
loop-i-init c = rw (rows_none (table_of c.args.given.now) c.args.relay) c.no_rows-split.ensures

pub put_parts-requires : goal.put_parts-requires
put_parts-requires c =
    let t = table_of c.args.given.now in
    let S = c.requires in (
      room_for t c.args.relay c.loop-i.i (numbers_of c.row_of-row.result) (omega arith) S.2 c.goes-through.ensures c.loop-i.invariant,
      fits_row t S.0 {i = c.loop-i.i} (omega arith) c.row_of-row.ensures,
      omega (arith, S.0.elements_high, S.1.high),
    )

pub loop-i-preserved : goal.loop-i-preserved
loop-i-preserved c =
    let g = c.args.given.now in
    let t = table_of g in
    let r = c.args.relay in
    let i = c.loop-i.i in
    rw (rows_next t r i c.goes-through.ensures c.row_of-row.ensures)
    (c.put_parts.ensures g.elements g.rings (split_rows t r i) c.loop-i.invariant)
