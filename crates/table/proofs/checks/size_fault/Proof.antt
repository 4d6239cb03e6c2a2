-- `table::checks::size_fault` meets its contract.
use mathlib.Core.Path.{refl}
use native.Mathlib.Omega.{arith}
use native.Mathlib.Nat.{mul-le-mul_right}
use borrow.Author.Rules.{rules}
use Rattle.rules.proofs.Answers.{applied, passed, done}
use Rattle.numbers.proofs.Truth.{denied, granted}
use Rattle.table.proofs.checks.size_fault.Statement.{statement}
use Rattle.table.proofs.checks.size_fault.Tie as tie

within-requires : tie.Need-within-requires
within-requires c κs = search rules

returns : tie.Need-returns-then-not-within
returns c = applied _ _ 4 0 (denied c.before.within.ensures c.if-not-within.true) refl refl

within-requires-2 : tie.Need-within-requires-2
within-requires-2 c κs = search rules

returns-2 : tie.Need-returns-then-not-within-2
returns-2 c =
    passed _ _ 5 0 (λ h. h (granted c.before.before.before.within.ensures c.before.before.if-not-within.false))
    (applied _ _ 5 0 (denied c.before.within-2.ensures c.if-not-within-2.true) refl refl)

mul-if3 : tie.Need-overflow_mul-each
mul-if3 c =
    let z = c.before.before.before.before in
    let n = granted c.before.within-2.ensures c.if-not-within-2.false in
    record { fits = omega (arith, n.1, mul-le-mul_right z.args.rows z.requires.1) }

add-if3 : tie.Need-overflow_add-front
add-if3 c =
    let z = c.before.before.before.before in
    let n = granted c.before.within-2.ensures c.if-not-within-2.false in
    record { fits = omega (arith, n.1, z.requires.0, mul-le-mul_right z.args.rows z.requires.1) }

returns-3 : tie.Need-returns-then-size-front
returns-3 c =
    passed _ _ 6 0 (λ h. h (granted c.before.before.before.before.within.ensures c.before.before.before.if-not-within.false))
    (passed _ _ 6 0 (λ h. h (granted c.before.before.within-2.ensures c.before.if-not-within-2.false))
    (applied _ _ 6 0 c.if-size-front.true refl refl))

returns-4 : tie.Need-returns
returns-4 c =
    passed _ _ 0 0 (λ h. h (granted c.before.before.before.before.within.ensures c.before.before.before.if-not-within.false))
    (passed _ _ 0 0 (λ h. h (granted c.before.before.within-2.ensures c.before.if-not-within-2.false))
    (passed _ _ 0 0 (λ h. h c.if-size-front.false) done))

pub size_fault_spec : {M : Type 1} → statement M
size_fault_spec =
    tie.close
    (tie.spec
    within-requires
    returns
    within-requires-2
    returns-2
    mul-if3
    add-if3
    returns-3
    returns-4)
