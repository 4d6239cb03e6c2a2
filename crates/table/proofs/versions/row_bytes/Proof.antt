-- `table::versions::row_bytes` meets its contract.
use native.Mathlib.Omega.{arith}
use borrow.Author.Rules.{rules}
use Rattle.table.proofs.RowSizes.{label_two, label_none, last_way, last_label}
use Rattle.table.proofs.versions.row_bytes.Statement.{statement}
use Rattle.table.proofs.versions.row_bytes.Tie as tie

add-result : tie.Need-overflow_add-result
add-result c = search rules

returns : tie.Need-returns-then-rings-eq-RINGS
returns c = (omega (arith, last_way c.before.args.version c.if-rings-eq-RINGS.true), omega arith)

add-result-2 : tie.Need-overflow_add-result-then-version-eq-VERSION_2
add-result-2 c = search rules

returns-2 : tie.Need-returns-then-version-eq-VERSION_2
returns-2 c =
    let v = c.before.before.args.version in
    (omega (arith, last_label v c.before.if-rings-eq-RINGS.false, label_two c.if-version-eq-VERSION_2.true), omega arith)

returns-3 : tie.Need-returns
returns-3 c =
    let v = c.before.before.args.version in
    (omega (arith, last_label v c.before.if-rings-eq-RINGS.false, label_none c.if-version-eq-VERSION_2.false), omega arith)

pub row_bytes_spec : {M : Type 1} → statement M
row_bytes_spec = tie.close (tie.spec add-result returns add-result-2 returns-2 returns-3)
