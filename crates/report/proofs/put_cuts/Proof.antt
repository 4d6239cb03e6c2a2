-- put_cuts: a line for the one ring, or two.
use borrow.Author.Rules.{rules}
use Rattle.report.proofs.Cuts.{cuts_one, cuts_two}
use Rattle.report.proofs.put_cuts.Statement.{statement}
use Rattle.report.proofs.put_cuts.Tie as tie

put-value-requires : tie.Need-put_value-next-requires
put-value-requires c κs = search rules

same_length : tie.Need-shape_of-out-then-other-eq0
same_length c = search rules

returns : tie.Need-returns-then-other-eq0
returns c = cuts_one _ _ c.if-other-eq0.true c.put_value-next.ensures

put-value-requires-2 : tie.Need-put_value-requires
put-value-requires-2 c κs = search rules

same-length-2 : tie.Need-shape_of-out
same-length-2 c = search rules

returns-2 : tie.Need-returns
returns-2 c =
    cuts_two _ _ c.if-other-eq0.false c.put_value-next.ensures c.put_value.ensures

pub put_cuts_spec : {M : Type 1} → statement M
put_cuts_spec =
    tie.close
    (tie.spec
    put-value-requires
    same_length
    returns
    put-value-requires-2
    same-length-2
    returns-2)
