-- `text_writer::put_note` meets its contract.
use native.Mathlib.Omega.{arith}
use borrow.Author.Tests.{eq-eqb, ne_eqb}
use Rattle.numbers.specs.Lists.{each}
use Rattle.rules.specs.Bounds.{max_rings}
use Rattle.rules.specs.TableFile.{version_2}
use Rattle.grammar.specs.TableText.{note}
use borrow.Author.Rules.{rules}
use Rattle.text_writer.proofs.put_note.Statement.{statement}
use Rattle.text_writer.proofs.put_note.Tie as tie

put-bytes-requires : tie.Need-put_bytes-requires
put-bytes-requires c κs = search rules

same_length : tie.Need-shape_of-out-then-rings-eq-RINGS
same_length c = search rules

returns : tie.Need-returns-then-rings-eq-RINGS
unfolding note each
returns c =
    let p = c.put_bytes.ensures in
    rw (eq-eqb c.args.rings max_rings c.if-rings-eq-RINGS.true) (p, omega (arith, p.after))

put-bytes-requires-2 : tie.Need-put_bytes-requires-then-version-eq-VERSION_2
put-bytes-requires-2 c κs = search rules

same-length-2 : tie.Need-shape_of-out-then-version-eq-VERSION_2
same-length-2 c = search rules

returns-2 : tie.Need-returns-then-version-eq-VERSION_2
unfolding note each
returns-2 c =
    let p = c.put_bytes-then-version-eq-VERSION_2.ensures in
    let a = c.args in
    rw (ne_eqb a.rings max_rings c.if-rings-eq-RINGS.false, eq-eqb a.version version_2 c.if-version-eq-VERSION_2.true) (p, omega (arith, p.after))

put-bytes-requires-3 : tie.Need-put_bytes-requires-2
put-bytes-requires-3 c κs = search rules

same-length-3 : tie.Need-shape_of-out
same-length-3 c = search rules

returns-3 : tie.Need-returns
unfolding note each
returns-3 c =
    let p = c.put_bytes-2.ensures in
    let a = c.args in
    rw (ne_eqb a.rings max_rings c.if-rings-eq-RINGS.false, ne_eqb a.version version_2 c.if-version-eq-VERSION_2.false) (p, omega (arith, p.after))

pub put_note_spec : {M : Type 1} → statement M
put_note_spec =
    tie.close
    (tie.spec
    put-bytes-requires
    same_length
    returns
    put-bytes-requires-2
    same-length-2
    returns-2
    put-bytes-requires-3
    same-length-3
    returns-3)
