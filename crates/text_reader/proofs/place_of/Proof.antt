-- `text_reader::place_of` meets its contract.
use native.Mathlib.Omega.{arith}
use borrow.Author.Rules.{rules}
use Rattle.text_reader.proofs.Lines.{field_start}
use Rattle.text_reader.proofs.place_of.Statement.{statement}
use Rattle.text_reader.proofs.place_of.Tie as tie

field-requires : tie.Need-field-requires
field-requires c κs = search rules

add-result : tie.Need-overflow_add-result
add-result c =
    let f = c.field.ensures 0 in
    omega (arith, f.ordered, f.high, c.requires)

returns : tie.Need-returns
returns c = field_start (c.field.ensures c.args.from)

pub place_of_spec : {M : Type 1} → statement M
place_of_spec = tie.close (tie.spec field-requires add-result returns)
