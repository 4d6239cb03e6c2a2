-- `listing::put_entry` meets its contract: 0 is received, and anything else sent.
use native.Mathlib.Omega.{arith}
use lib.Dec.{eqb, eqb→eq}
use borrow.Author.Rules.{rules}
use Rattle.numbers.proofs.Truth.{is_false}
use Rattle.file_report.proofs.listing.put_entry.Statement.{statement}
use Rattle.file_report.proofs.listing.put_entry.Tie as tie

slice-aggregate-put-line : tie.Need-slice_bounds-put_line-end-then-way-eq0
slice-aggregate-put-line c = search rules

slice-aggregate-put-line-2 : tie.Need-slice_bounds-put_line-end-3
slice-aggregate-put-line-2 c = search rules

put-line-requires : tie.Need-put_line-requires
put-line-requires c κs = search rules

same_length : tie.Need-shape_of-out-then-way-eq0
same_length c = search rules

returns : tie.Need-returns-then-way-eq0
returns c =
    let p = c.put_line.ensures in
    rw c.if-way-eq0.true (p.0, omega (arith, p.1))

put-line-requires-2 : tie.Need-put_line-requires-2
put-line-requires-2 c κs = search rules

same-length-2 : tie.Need-shape_of-out
same-length-2 c = search rules

returns-2 : tie.Need-returns
returns-2 c =
    let way = c.args.way in
    let p = c.put_line-2.ensures in
    rw (is_false (eqb way 0) (λ t. c.if-way-eq0.false (eqb→eq way 0 t))) (p.0, omega (arith, p.1))

pub put_entry_spec : {M : Type 1} → statement M
put_entry_spec =
    tie.close
    (tie.spec
    slice-aggregate-put-line
    put-line-requires
    same_length
    returns
    slice-aggregate-put-line-2
    put-line-requires-2
    same-length-2
    returns-2)
