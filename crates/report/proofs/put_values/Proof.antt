-- put_values: the three lines, one after the other.
use borrow.Author.Rules.{rules}
use native.Mathlib.Omega.{arith}
use Rattle.rules.specs.Text.{text}
use Rattle.decimal.proofs.Puts.{puts_none, puts_more}
use Rattle.report.proofs.put_values.Statement.{statement}
use Rattle.report.proofs.put_values.Tie as tie

put-value-requires : tie.Need-put_value-next-requires
put-value-requires c κs = search rules

put-value-requires-2 : tie.Need-put_value-last-requires
put-value-requires-2 c κs = search rules

put-value-requires-3 : tie.Need-put_value-requires
put-value-requires-3 c κs = search rules

same_length : tie.Need-shape_of-out
same_length c = search rules

returns : tie.Need-returns
unfolding text
returns c =
    let D = c.put_value.ensures in
    let A = c.put_value-next.ensures in (
      puts_more A.0 (puts_more c.put_value-last.ensures.0 (puts_more D.0 (puts_none _ _))),
      omega (arith, A.1, c.put_value-last.ensures.1, D.1),
    )

pub put_values_spec : {M : Type 1} → statement M
put_values_spec =
    tie.close
    (tie.spec
    put-value-requires
    put-value-requires-2
    put-value-requires-3
    same_length
    returns)
