-- `text_writer::put_row` meets its contract.
use mathlib.Core.Path.{◌≡◌}
use mathlib.Core.Logic.{◌≢◌}
use native.Mathlib.Omega.{arith}
use Rattle.rules.specs.TableFile.{last_size}
use Rattle.text_writer.proofs.Rows.{Numbers16, last_absent, last_there, puts_row}
use borrow.Author.Rules.{rules}
use Rattle.text_writer.proofs.put_row.Statement.{statement}
use Rattle.text_writer.proofs.put_row.Tie as tie

cast-period : tie.Need-overflow_cast-period
cast-period c = search rules

cast-first : tie.Need-overflow_cast-first
cast-first c = search rules

cast-second : tie.Need-overflow_cast-second
cast-second c = search rules

cast-label : tie.Need-overflow_cast-label
cast-label c = search rules

cast-put-decimal : tie.Need-overflow_cast-row
cast-put-decimal c = search rules

put-decimal-requires : tie.Need-put_decimal-next-requires
put-decimal-requires c κs = search rules

row-bytes-requires : tie.Need-row_bytes-requires
row-bytes-requires c κs = search rules

slice-aggregate-put-line : tie.Need-slice_bounds-put_line-end-then-row_bytes-eq-ROW_BYTES
slice-aggregate-put-line c = search rules

slice-aggregate-put-line-2 : tie.Need-slice_bounds-put_line-end-3
slice-aggregate-put-line-2 c = search rules

put-line-requires : tie.Need-put_line-requires
put-line-requires c κs = search rules

same_length : tie.Need-shape_of-out-then-row_bytes-eq-ROW_BYTES
same_length c = search rules

-- a row in memory has numbers of 16 bits
small : (z : tie.Start) → Numbers16 z.args.row
small z = record { cost = omega arith; period = omega arith; first = omega arith; second = omega arith; label = omega arith }

returns : tie.Need-returns-then-row_bytes-eq-ROW_BYTES
returns c =
    let z = c.before.before.before.before.before.before.before.before.before.before.before.before.before.before.before.before.before.before.before in
    let a = z.args in
    let e : last_size a.rings a.version ≡ 0 =
    omega (arith, c.row_bytes.ensures.0, c.if-row_bytes-eq-ROW_BYTES.true) in
    puts_row a.rings a.version a.row (small z) (last_absent a.rings a.version a.row.label e) c.put_decimal-next.ensures.0
    c.put_line.ensures.0

put-line-requires-2 : tie.Need-put_line-requires-2
put-line-requires-2 c κs = search rules

same-length-2 : tie.Need-shape_of-out
same-length-2 c = search rules

returns-2 : tie.Need-returns
returns-2 c =
    let z = c.before.before.before.before.before.before.before.before.before.before.before.before.before.before.before.before.before.before.before in
    let a = z.args in
    let h : last_size a.rings a.version ≢ 0 =
    λ e. let y : ⊥ = omega (arith, c.row_bytes.ensures.0, c.if-row_bytes-eq-ROW_BYTES.false, e) in y in
    puts_row a.rings a.version a.row (small z) (last_there a.rings a.version a.row.label h) c.put_decimal-next.ensures.0
    c.put_line-2.ensures.0

pub put_row_spec : {M : Type 1} → statement M
put_row_spec =
    tie.close
    (tie.spec
    cast-period
    cast-first
    cast-second
    cast-label
    cast-put-decimal
    put-decimal-requires
    row-bytes-requires
    slice-aggregate-put-line
    put-line-requires
    same_length
    returns
    slice-aggregate-put-line-2
    put-line-requires-2
    same-length-2
    returns-2)
