-- `raised::put_raise` meets its contract.
use native.Mathlib.Omega.{arith}
use borrow.Author.Rules.{rules}
use Rattle.report.proofs.RaisedShort.{raise_short}
use Rattle.report.proofs.raised.put_raise.Statement.{statement}
use Rattle.report.proofs.raised.put_raise.Tie as tie

slice-aggregate-put-line : tie.Need-slice_bounds-put_line-end-2
slice-aggregate-put-line c = search rules

put-line-requires : tie.Need-put_line-requires
put-line-requires c κs = search rules

same_length : tie.Need-shape_of-out
same_length c = search rules

returns : tie.Need-returns
returns c =
    let P = c.put_line.ensures.0 in
    let p = c.requires in
    (P, omega (arith, P.after, raise_short c.args.row c.args.old c.args.new p.0 p.1 p.2))

pub put_raise_spec : {M : Type 1} → statement M
put_raise_spec = tie.close (tie.spec
    slice-aggregate-put-line
    put-line-requires
    same_length
    returns)
