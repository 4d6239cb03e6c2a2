-- `fields::step` meets its contract.
use borrow.Author.Rules.{rules}
use borrow.Author.Tests.{eq-eqb, ne_eqb}
use Rattle.text_reader.proofs.fields.step.Statement.{statement}
use Rattle.text_reader.proofs.fields.step.Tie as tie

add-t4 : tie.Need-overflow_add-result
add-t4 c = search rules

returns : tie.Need-returns-then-b-eq10
returns c = rw (eq-eqb _ _ c.if-b-eq10.true)

add-t5 : tie.Need-overflow_add-result-2
add-t5 c = search rules

returns-2 : tie.Need-returns
returns-2 c = rw (ne_eqb _ _ c.if-b-eq10.false)

pub step_spec : {M : Type 1} → statement M
step_spec = tie.close (tie.spec add-t4 returns add-t5 returns-2)
