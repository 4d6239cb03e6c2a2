-- `table::versions::row_place` meets its contract.
use Prim.Native.Nat.{◌*◌, ◌≤◌}
use native.Mathlib.Nat.{mul-le-mul_right}
use native.Mathlib.Omega.{arith}
use borrow.Author.Rules.{rules}
use Rattle.table.specs.Rows.{longest_row}
use Rattle.table.proofs.versions.row_place.Statement.{statement}
use Rattle.table.proofs.versions.row_place.Tie as tie

-- no row has more bytes than the longest
short : (z : tie.After-row_bytes) → z.row_bytes.result * z.before.args.i ≤ longest_row * z.before.args.i
short z = mul-le-mul_right z.before.args.i z.row_bytes.ensures.1

row-bytes-requires : tie.Need-row_bytes-requires
row-bytes-requires c κs = search rules

mul-result : tie.Need-overflow_mul-result
mul-result c = record { fits = omega (arith, short c) }

add-result : tie.Need-overflow_add-result
add-result c = record { fits = omega (arith, short c) }

returns : tie.Need-returns
returns c = rw c.row_bytes.ensures.0

pub row_place_spec : {M : Type 1} → statement M
row_place_spec = tie.close (tie.spec row-bytes-requires mul-result add-result returns)
