-- `text_reader::cell_at` meets its contract.
use native.Mathlib.Omega.{arith}
use borrow.Author.Rules.{rules}
use Rattle.text_reader.proofs.Lines.{field_cell}
use Rattle.text_reader.proofs.cell_at.Statement.{statement}
use Rattle.text_reader.proofs.cell_at.Tie as tie

field-requires : tie.Need-field-found-requires
field-requires c κs = search rules

sub_number : tie.Need-slice_bounds-number-count
sub_number c = omega (arith, (c.field-found.ensures 0).ordered)

part-number-start : tie.Need-slice_bounds-number-start
part-number-start c = omega (arith, (c.field-found.ensures 0).ordered)

part-number-end : tie.Need-slice_bounds-number-end
part-number-end c = omega (arith, (c.field-found.ensures 0).high)

add-number : tie.Need-overflow_add-from
add-number c =
    let f = c.field-found.ensures 0 in
    omega (arith, f.ordered, f.high, c.requires)

number-requires : tie.Need-number-requires
number-requires c κs = search rules

returns : tie.Need-returns
returns c =
    let z = c in
    field_cell (z.field-found.ensures z.args.from) c.number.ensures

pub cell_at_spec : {M : Type 1} → statement M
cell_at_spec =
    tie.close
    (tie.spec
    field-requires
    sub_number
    part-number-start
    part-number-end
    add-number
    number-requires
    returns)
