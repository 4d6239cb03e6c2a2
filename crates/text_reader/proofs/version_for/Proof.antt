-- `text_reader::version_for` meets its contract.
use borrow.Author.Tests.{eq-eqb, ne_eqb}
use Rattle.rules.specs.Bounds.{max_rings}
use Rattle.text_reader.proofs.version_for.Statement.{statement}
use Rattle.text_reader.proofs.version_for.Tie as tie

returns : tie.Need-returns-then-rings-eq-RINGS
returns c = rw (eq-eqb c.args.rings max_rings c.if-rings-eq-RINGS.true)

returns-2 : tie.Need-returns-then-labelled
returns-2 c =
    rw (ne_eqb c.args.rings max_rings c.if-rings-eq-RINGS.false, c.if-labelled.true)

returns-3 : tie.Need-returns
returns-3 c =
    rw (ne_eqb c.args.rings max_rings c.if-rings-eq-RINGS.false, c.if-labelled.false)

pub version_for_spec : {M : Type 1} → statement M
version_for_spec = tie.close (tie.spec returns returns-2 returns-3)
