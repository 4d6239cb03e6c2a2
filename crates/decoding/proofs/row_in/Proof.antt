-- `decoding::row_in` meets its contract.
use native.Mathlib.Omega.{arith}
use Rattle.table.proofs.RowSizes.{row_inside}
use Rattle.decoding.proofs.row_in.Statement.{statement}
use Rattle.decoding.proofs.row_in.Tie as tie

rings-of-requires : tie.Need-rings_of-requires
rings-of-requires c κs = omega (arith, c.requires.0.size)

version-of-requires : tie.Need-version_of-requires
version-of-requires c κs = omega (arith, c.requires.0.size)

row-place-requires : tie.Need-row_place-requires
row-place-requires c κs = omega (arith, c.requires.0.few)

returns : tie.Need-returns
returns c =
    let z = c in
    let e = rw (c.rings_of.ensures, c.version_of.ensures) at c.row_place.ensures in
    (e, omega (arith, e, row_inside z.requires.0 z.requires.1))

pub row_in_spec : {M : Type 1} → statement M
row_in_spec = tie.close (tie.spec rings-of-requires version-of-requires row-place-requires returns)
