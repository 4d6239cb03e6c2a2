-- put_last: with two rings a direction, with one a label in version 2, or nothing.
use Rattle.std.proofs.Common.{eq-eqb, ◌∙◌, arith}
use borrow.Author.Tests.{ne_eqb}
use Rattle.numbers.specs.Codec.{write_low}
use Rattle.rules.specs.Bounds.{max_rings}
use Rattle.rules.specs.TableFile.{last_of}
use Rattle.table.proofs.RowSizes.{label_two, label_none, last_way, last_label}
use Rattle.writer.proofs.put_last.Goals as goal

pub put_way-requires : goal.put_way-requires
put_way-requires c = (omega (arith, c.requires.0, last_way c.args.version c.if-rings-eq-RINGS.true), c.requires.1)

pub returns-then-rings-eq-RINGS : goal.returns-then-rings-eq-RINGS
unfolding last_of
returns-then-rings-eq-RINGS c =
    rw (last_way c.args.version c.if-rings-eq-RINGS.true, eq-eqb c.args.rings max_rings c.if-rings-eq-RINGS.true) c.put_way.ensures

pub returns-then-version-ne-VERSION_2 : goal.returns-then-version-ne-VERSION_2
unfolding write_low
returns-then-version-ne-VERSION_2 c =
    rw (last_label c.args.version c.if-rings-eq-RINGS.false ∙ label_none c.if-version-ne-VERSION_2.true)

pub put16-requires : goal.put16-requires
put16-requires c =
    omega (arith, c.requires.0, last_label c.args.version c.if-rings-eq-RINGS.false, label_two c.if-version-ne-VERSION_2.false)

pub returns : goal.returns
unfolding last_of write_low
returns c =
    rw (
      last_label c.args.version c.if-rings-eq-RINGS.false ∙ label_two c.if-version-ne-VERSION_2.false,
      ne_eqb c.args.rings max_rings c.if-rings-eq-RINGS.false,
    )
    c.put16.ensures
