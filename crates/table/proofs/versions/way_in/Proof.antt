-- `table::versions::way_in` meets its contract.
use borrow.Author.Tests.{eq-eqb, ne_eqb}
use Rattle.rules.specs.Bounds.{max_rings}
use Rattle.rules.specs.TableFile.{way_in}
use Rattle.table.proofs.versions.way_in.Statement.{statement}
use Rattle.table.proofs.versions.way_in.Tie as tie

returns : tie.Need-returns-then-rings-eq-RINGS
unfolding way_in
returns c = rw (eq-eqb c.before.args.rings max_rings c.if-rings-eq-RINGS.true)

returns-2 : tie.Need-returns-else-rings-eq-RINGS
unfolding way_in
returns-2 c = rw (ne_eqb c.before.args.rings max_rings c.if-rings-eq-RINGS.false)

pub way_in_spec : {M : Type 1} → statement M
way_in_spec = tie.close (tie.spec returns returns-2)
