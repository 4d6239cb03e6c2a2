-- `table::checks::within` meets its contract.
use native.Mathlib.Omega.{arith}
use borrow.Author.Tests.{leb-true, leb-false}
use Rattle.numbers.proofs.Truth.{decides_no}
use Rattle.table.proofs.checks.within.Statement.{statement}
use Rattle.table.proofs.checks.within.Tie as tie

returns : tie.Need-returns-then-x-low
returns c = decides_no (λ w. let z : ⊥ = omega arith in z)

returns-2 : tie.Need-returns
returns-2 c =
    let x = c.before.args.x in
    let high = c.before.args.high in
    record { holds = λ e. (omega arith, leb-true x high e); fails = λ e w. let z : ⊥ = omega (arith, leb-false x high e) in z }

pub within_spec : {M : Type 1} → statement M
within_spec = tie.close (tie.spec returns returns-2)
