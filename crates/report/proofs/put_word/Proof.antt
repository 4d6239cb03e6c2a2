-- put_word: a slot's line or a set's, by the test.
use borrow.Author.Rules.{rules}
use native.Mathlib.Omega.{arith}
use Rattle.report.proofs.put_word.Statement.{statement}
use Rattle.report.proofs.put_word.Tie as tie

slice-aggregate-put-line : tie.Need-slice_bounds-put_line-end-then-slots
slice-aggregate-put-line c = search rules

put-line-requires : tie.Need-put_line-requires
put-line-requires c κs = search rules

same_length : tie.Need-shape_of-out-then-slots
same_length c = search rules

returns : tie.Need-returns-then-slots
returns c =
    let p = c.put_line.ensures in
    rw c.if-slots.true (p.0, omega (arith, p.1))

put-value-requires : tie.Need-put_value-requires
put-value-requires c κs = search rules

same-length-2 : tie.Need-shape_of-out
same-length-2 c = search rules

returns-2 : tie.Need-returns
returns-2 c = rw c.if-slots.false c.put_value.ensures

pub put_word_spec : {M : Type 1} → statement M
put_word_spec =
    tie.close
    (tie.spec
    slice-aggregate-put-line
    put-line-requires
    same_length
    returns
    put-value-requires
    same-length-2
    returns-2)
