-- `table::marks::mark_byte` meets its contract.
use borrow.Author.Rules.{rules}
use borrow.Author.Tests.{eq-eqb, ne_eqb}
use Rattle.rules.specs.Bounds.{max_rings}
use Rattle.rules.specs.TableFile.{mark_of}
use Rattle.table.proofs.marks.mark_byte.Statement.{statement}
use Rattle.table.proofs.marks.mark_byte.Tie as tie

array-read-result : tie.Need-bounds-2
array-read-result c = search rules

array-read-result-2 : tie.Need-bounds-2-else-rings-eq-RINGS
array-read-result-2 c = search rules

returns : tie.Need-returns-then-rings-eq-RINGS
unfolding mark_of
returns c = rw (eq-eqb c.before.args.rings max_rings c.if-rings-eq-RINGS.true)

returns-2 : tie.Need-returns-else-rings-eq-RINGS
unfolding mark_of
returns-2 c = rw (ne_eqb c.before.args.rings max_rings c.if-rings-eq-RINGS.false)

pub mark_byte_spec : {M : Type 1} → statement M
mark_byte_spec = tie.close (tie.spec array-read-result array-read-result-2 returns returns-2)
