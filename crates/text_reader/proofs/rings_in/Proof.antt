-- `text_reader::rings_in` meets its contract.
use native.Mathlib.Omega.{arith}
use borrow.Author.Rules.{rules}
use borrow.Author.Tests.{eq-eqb, ne_eqb}
use Rattle.grammar.specs.TableText.{rings_in}
use Rattle.text_reader.proofs.Lines.{first_none, first_byte}
use Rattle.text_reader.proofs.rings_in.Statement.{statement}
use Rattle.text_reader.proofs.rings_in.Tie as tie

field-requires : tie.Need-field-word-requires
field-requires c κs = search rules

returns : tie.Need-returns-then-start-word
unfolding rings_in
returns c = λ from. rw (first_none (c.field-word.ensures from) c.if-start-word.true)

shared-slice-read-if2 : tie.Need-bounds-line-start
shared-slice-read-if2 c =
    let f = c.field-word.ensures 0 in
    omega (arith, f.ordered, f.high)

returns-2 : tie.Need-returns-then-line-start-eq98
unfolding rings_in
returns-2 c =
    let f = c.field-word.ensures in
    λ from. rw (first_byte (f from) (omega (arith, (f 0).ordered, c.if-start-word.false)), eq-eqb _ _ c.if-line-start-eq98.true)

returns-3 : tie.Need-returns
unfolding rings_in
returns-3 c =
    let f = c.field-word.ensures in
    λ from. rw (first_byte (f from) (omega (arith, (f 0).ordered, c.if-start-word.false)), ne_eqb _ _ c.if-line-start-eq98.false)

pub rings_in_spec : {M : Type 1} → statement M
rings_in_spec = tie.close (tie.spec field-requires returns shared-slice-read-if2 returns-2 returns-3)
