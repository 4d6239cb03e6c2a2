-- `text_reader::is_no_heading` meets its contract.
use borrow.Author.Rules.{rules}
use Rattle.numbers.proofs.Truth.{decides_yes, decides_no}
use Rattle.text_reader.proofs.is_no_heading.Statement.{statement}
use Rattle.text_reader.proofs.is_no_heading.Tie as tie

is-word-requires : tie.Need-is_word-requires
is-word-requires c κs = search rules

returns : tie.Need-returns-then-is_word
returns c = λ from. decides_no (λ w. w.0 ((c.is_word.ensures from).holds c.if-is_word.true))

is-word-requires-2 : tie.Need-is_word-requires-2
is-word-requires-2 c κs = search rules

returns-2 : tie.Need-returns-then-is_word-2
returns-2 c = λ from. decides_no (λ w. w.1 ((c.is_word-2.ensures from).holds c.if-is_word-2.true))

returns-3 : tie.Need-returns
returns-3 c =
    let z = c in
    λ from. decides_yes ((z.is_word.ensures from).fails z.if-is_word.false, (c.is_word-2.ensures from).fails c.if-is_word-2.false)

pub is_no_heading_spec : {M : Type 1} → statement M
is_no_heading_spec =
    tie.close
    (tie.spec
    is-word-requires
    returns
    is-word-requires-2
    returns-2
    returns-3)
