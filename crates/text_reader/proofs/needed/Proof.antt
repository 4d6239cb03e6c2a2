-- `text_reader::needed` meets its contract.
use borrow.Author.Tests.{eq-eqb, ne_eqb}
use Rattle.rules.specs.Bounds.{max_rings}
use Rattle.grammar.specs.TableText.{needed}
use Rattle.text_reader.proofs.needed.Statement.{statement}
use Rattle.text_reader.proofs.needed.Tie as tie

returns : tie.Need-returns-then-rings-eq-RINGS
unfolding needed
returns c = rw (eq-eqb c.args.rings max_rings c.if-rings-eq-RINGS.true)

returns-2 : tie.Need-returns-else-rings-eq-RINGS
unfolding needed
returns-2 c = rw (ne_eqb c.args.rings max_rings c.if-rings-eq-RINGS.false)

pub needed_spec : {M : Type 1} → statement M
needed_spec = tie.close (tie.spec returns returns-2)
