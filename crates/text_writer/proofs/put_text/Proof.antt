-- `text_writer::put_text` meets its contract.
use mathlib.Core.List.{[], ◌∷◌}
use Rattle.numbers.specs.Lists.{each}
use Rattle.rules.specs.TableFile.{memory_labelled_with}
use Rattle.grammar.specs.TableText.{head_line, note, row_line, table_text}
use Rattle.text_writer.proofs.Rows.{puts_three}
use borrow.Author.Rules.{rules}
use Rattle.text_writer.proofs.put_text.Statement.{statement}
use Rattle.text_writer.proofs.put_text.Tie as tie

put-heading-requires : tie.Need-put_heading-headed-requires
put-heading-requires c κs = search rules

put-note-requires : tie.Need-put_note-noted-requires
put-note-requires c κs = search rules

put-rows-requires : tie.Need-put_rows-requires
put-rows-requires c κs = search rules

same_length : tie.Need-shape_of-out
same_length c = search rules

returns : tie.Need-returns
unfolding table_text
returns c =
    let a = c.args in
    puts_three (head_line a.rings a.elements) (note a.rings a.version)
    (each a.rows (λ i. row_line a.version (memory_labelled_with a.rings 0 a.rows a.numbers.now) i ∷ [])) a.rows
    c.put_heading-headed.ensures c.put_note-noted.ensures c.put_rows.ensures

pub put_text_spec : {M : Type 1} → statement M
put_text_spec =
    tie.close
    (tie.spec put-heading-requires put-note-requires put-rows-requires same_length returns)
