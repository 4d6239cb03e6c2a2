-- The lines of the first i rows are put.
use Rattle.std.proofs.Common.{[], ◌∷◌}
use Rattle.numbers.specs.Lists.{each}
use Rattle.rules.specs.TableFile.{memory_labelled_with}
use Rattle.decimal.specs.Puts.{PutsLines}
use Rattle.grammar.specs.TableText.{row_line}
use Rattle.text_writer.proofs.put_rows.Given as goal

abbrev pub invariant-loop-i : goal.invariant-loop-i
invariant-loop-i l =
    PutsLines (each l.i (λ k. row_line l.version (memory_labelled_with l.rings 0 l.rows l.numbers) k ∷ [])) l.i l.initial.out l.at l.out
    l.next
