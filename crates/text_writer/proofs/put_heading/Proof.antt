-- `text_writer::put_heading` meets its contract.
use native.Mathlib.Omega.{arith}
use borrow.Author.Tests.{eq-eqb, ne_eqb}
use Rattle.rules.specs.Bounds.{max_rings}
use Rattle.grammar.specs.TableText.{head_line}
use borrow.Author.Rules.{rules}
use Rattle.text_writer.proofs.put_heading.Statement.{statement}
use Rattle.text_writer.proofs.put_heading.Tie as tie

slice-aggregate-put-line : tie.Need-slice_bounds-put_line-end-then-rings-eq-RINGS
slice-aggregate-put-line c = search rules

slice-aggregate-put-line-2 : tie.Need-slice_bounds-put_line-end-3
slice-aggregate-put-line-2 c = search rules

put-line-requires : tie.Need-put_line-requires
put-line-requires c κs = search rules

same_length : tie.Need-shape_of-out-then-rings-eq-RINGS
same_length c = search rules

returns : tie.Need-returns-then-rings-eq-RINGS
unfolding head_line
returns c =
    let p = c.put_line.ensures in
    rw (eq-eqb c.args.rings max_rings c.if-rings-eq-RINGS.true) (p.0, omega (arith, p.1))

put-line-requires-2 : tie.Need-put_line-requires-2
put-line-requires-2 c κs = search rules

same-length-2 : tie.Need-shape_of-out
same-length-2 c = search rules

returns-2 : tie.Need-returns
unfolding head_line
returns-2 c =
    let p = c.put_line-2.ensures in
    rw (ne_eqb c.args.rings max_rings c.if-rings-eq-RINGS.false) (p.0, omega (arith, p.1))

pub put_heading_spec : {M : Type 1} → statement M
put_heading_spec =
    tie.close
    (tie.spec
    slice-aggregate-put-line
    put-line-requires
    same_length
    returns
    slice-aggregate-put-line-2
    put-line-requires-2
    same-length-2
    returns-2)
