-- `text_reader::in_ring` meets its contract.
use borrow.Author.Rules.{rules}
use Rattle.text_reader.proofs.in_ring.Statement.{statement}
use Rattle.text_reader.proofs.in_ring.Tie as tie

way-in-requires : tie.Need-way_in-requires
way-in-requires c κs = search rules

label-in-requires : tie.Need-label_in-requires
label-in-requires c κs = search rules

returns : tie.Need-returns
returns c = rw (c.way_in.ensures, c.label_in.ensures)

pub in_ring_spec : {M : Type 1} → statement M
in_ring_spec = tie.close (tie.spec way-in-requires label-in-requires returns)
