-- `marks::put_start` meets its contract.
use mathlib.Core.Path.{ap, ◌∙◌}
use native.Mathlib.Omega.{arith}
use lib.ListN.{length, length-set}
use lib.Seq.{length-sets}
use borrow.Author.Rules.{rules}
use Rattle.table.proofs.marks.put_start.Statement.{statement}
use Rattle.table.proofs.marks.put_start.Tie as tie

array-read-out : tie.Need-bounds-0
array-read-out c = search rules

slice-write-out : tie.Need-bounds-out-0
slice-write-out c = search rules

array-read-out-2 : tie.Need-bounds-1
array-read-out-2 c = search rules

slice-write-out-2 : tie.Need-bounds-out-1
slice-write-out-2 c = simp length-set (omega arith)

slice-write-out-3 : tie.Need-bounds-out-2
slice-write-out-3 c = simp length-set (omega arith)

put16-requires : tie.Need-put16-requires
put16-requires c κs = simp length-set (omega arith)

same_length : tie.Need-shape_of-out
same_length c = ap length c.before.before.put16.ensures ∙ simp (length-sets, length-set)

returns : tie.Need-returns
returns c = c.before.before.put16.ensures

pub put_start_spec : {M : Type 1} → statement M
put_start_spec =
    tie.close
    (tie.spec
    array-read-out
    slice-write-out
    array-read-out-2
    slice-write-out-2
    slice-write-out-3
    put16-requires
    same_length
    returns)
