-- `fields::next_field` meets its contract: past the blanks, and then up to the next one.
use borrow.Author.Rules.{rules}
use Rattle.text_reader.proofs.LineFields.{is_next}
use Rattle.text_reader.proofs.fields.next_field.Statement.{statement}
use Rattle.text_reader.proofs.fields.next_field.Tie as tie

stop-requires : tie.Need-stop-start-requires
stop-requires c κs = search rules

stop-requires-2 : tie.Need-stop-requires
stop-requires-2 c κs = search rules

returns : tie.Need-returns
returns c =
    λ from. is_next from _ _ _ c.requires c.stop-start.ensures.0 c.stop.ensures.0

pub next_field_spec : {M : Type 1} → statement M
next_field_spec = tie.close (tie.spec stop-requires stop-requires-2 returns)
