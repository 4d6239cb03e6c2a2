-- `fields::has_field` meets its contract.
use borrow.Author.Rules.{rules}
use Rattle.text_reader.proofs.LineFields.{field_decides}
use Rattle.text_reader.proofs.fields.has_field.Statement.{statement}
use Rattle.text_reader.proofs.fields.has_field.Tie as tie

field-requires : tie.Need-field-found-requires
field-requires c κs = search rules

returns : tie.Need-returns
returns c = λ from. field_decides (c.field-found.ensures from)

pub has_field_spec : {M : Type 1} → statement M
has_field_spec = tie.close (tie.spec field-requires returns)
