-- `table::versions::last_of` meets its contract.
use borrow.Author.Tests.{eq-eqb, ne_eqb}
use Rattle.rules.specs.Bounds.{max_rings}
use Rattle.rules.specs.TableFile.{last_of}
use Rattle.table.proofs.versions.last_of.Statement.{statement}
use Rattle.table.proofs.versions.last_of.Tie as tie

returns : tie.Need-returns-then-rings-eq-RINGS
unfolding last_of
returns c = rw (eq-eqb c.before.args.rings max_rings c.if-rings-eq-RINGS.true)

returns-2 : tie.Need-returns-else-rings-eq-RINGS
unfolding last_of
returns-2 c = rw (ne_eqb c.before.args.rings max_rings c.if-rings-eq-RINGS.false)

pub last_of_spec : {M : Type 1} → statement M
last_of_spec = tie.close (tie.spec returns returns-2)
