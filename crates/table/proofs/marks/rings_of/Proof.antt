-- `table::marks::rings_of` meets its contract.
use borrow.Author.Rules.{rules}
use borrow.Author.Tests.{eq-eqb, ne_eqb}
use Rattle.rules.specs.TableFile.{rings_of}
use Rattle.table.proofs.marks.rings_of.Statement.{statement}
use Rattle.table.proofs.marks.rings_of.Tie as tie

shared-slice-read-if1 : tie.Need-bounds-file-2
shared-slice-read-if1 c = search rules

array-read-if1 : tie.Need-bounds-2
array-read-if1 c = search rules

returns : tie.Need-returns-then-file
unfolding rings_of
returns c = rw (eq-eqb _ _ c.if-file.true)

returns-2 : tie.Need-returns
unfolding rings_of
returns-2 c = rw (ne_eqb _ _ c.if-file.false)

pub rings_of_spec : {M : Type 1} → statement M
rings_of_spec = tie.close (tie.spec shared-slice-read-if1 array-read-if1 returns returns-2)
