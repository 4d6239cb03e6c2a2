-- `table::marks::is_strange` meets its contract.
use Rattle.numbers.proofs.Truth.{decides_yes, decides_no}
use borrow.Author.Rules.{rules}
use Rattle.table.proofs.marks.is_strange.Statement.{statement}
use Rattle.table.proofs.marks.is_strange.Tie as tie

array-read-begins : tie.Need-bounds-2
array-read-begins c = search rules

begins-requires : tie.Need-begins-requires
begins-requires c κs = search rules

returns : tie.Need-returns-then-begins
returns c = decides_no (λ w. w.0 (c.before.begins.ensures.holds c.if-begins.true))

array-read-begins-2 : tie.Need-bounds-2-2
array-read-begins-2 c = search rules

begins-requires-2 : tie.Need-begins-requires-2
begins-requires-2 c κs = search rules

returns-2 : tie.Need-returns-then-begins-2
returns-2 c = decides_no (λ w. w.1 (c.before.begins-2.ensures.holds c.if-begins-2.true))

returns-3 : tie.Need-returns
returns-3 c =
    let z = c.before.before in
    decides_yes (z.before.begins.ensures.fails z.if-begins.false, c.before.begins-2.ensures.fails c.if-begins-2.false)

pub is_strange_spec : {M : Type 1} → statement M
is_strange_spec =
    tie.close
    (tie.spec array-read-begins begins-requires returns array-read-begins-2 begins-requires-2 returns-2 returns-3)
