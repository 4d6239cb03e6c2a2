-- `table::checks::row_fault` meets its contract.
use mathlib.Core.Path.{refl}
use mathlib.Core.List.{[], ◌∷◌}
use Prim.Native.Nat.{ℕ}
use native.Mathlib.Omega.{arith}
use mathlib.Core.Logic.{inl, inr}
use borrow.Author.Rules.{rules}
use Rattle.rules.specs.Refusals.{Answers, wrong_ends, wrong_period, wrong_way, faults}
use Rattle.rules.proofs.Answers.{applied, passed, done}
use Rattle.table.specs.Rows.{single}
use Rattle.table.proofs.Faults.{ends_right}
use Rattle.numbers.proofs.Truth.{denied, granted}
use Rattle.table.proofs.checks.row_fault.Statement.{statement}
use Rattle.table.proofs.checks.row_fault.Tie as tie

-- past the tests of the ends, and past that of the period
ends : (z : tie.Else-row)
    → let a = z.before.before.before.before.before.before.before.before.args in
    (wrong_ends (single a.elements a.rings a.row) 0).applies → ⊥
ends z =
    let a = z.before.before.before.before.before.before.before.before.args in
    ends_right (single a.elements a.rings a.row) 0
    (granted z.before.before.before.before.before.before.within.ensures z.before.before.before.before.before.if-not-within.false)
    (granted z.before.before.before.within-2.ensures z.before.before.if-not-within-2.false)
    z.if-row.false

period : (z : tie.Else-not-within-3)
    → let a = z.before.before.before.before.before.before.before.before.before.before.before.args in
    (wrong_period (single a.elements a.rings a.row) 0).applies → ⊥
period z h = h (granted z.before.within-3.ensures z.if-not-within-3.false)

cast-within : tie.Need-overflow_cast-row
cast-within c = search rules

within-requires : tie.Need-within-requires
within-requires c κs = search rules

returns : tie.Need-returns-then-not-within
returns c = applied _ _ 7 0 (inl (denied c.before.within.ensures c.if-not-within.true)) refl refl

cast-within-2 : tie.Need-overflow_cast-row-2
cast-within-2 c = search rules

within-requires-2 : tie.Need-within-requires-2
within-requires-2 c κs = search rules

returns-2 : tie.Need-returns-then-not-within-2
returns-2 c = applied _ _ 7 0 (inr (inl (denied c.before.within-2.ensures c.if-not-within-2.true))) refl refl

returns-3 : tie.Need-returns-then-row
returns-3 c = applied _ _ 7 0 (inr (inr c.if-row.true)) refl refl

cast-within-3 : tie.Need-overflow_cast-row-3
cast-within-3 c = search rules

within-requires-3 : tie.Need-within-requires-3
within-requires-3 c κs = search rules

returns-4 : tie.Need-returns-then-not-within-3
returns-4 c =
    passed _ _ 8 0 (ends c.before.before.before)
    (applied _ _ 8 0 (denied c.before.within-3.ensures c.if-not-within-3.true) refl refl)

cast-within-4 : tie.Need-overflow_cast-row-4
cast-within-4 c = search rules

cast-within-5 : tie.Need-overflow_cast-row-5
cast-within-5 c = search rules

within-requires-4 : tie.Need-within-requires-4
within-requires-4 c κs = search rules

returns-5 : tie.Need-returns-then-not-within-4
returns-5 c =
    passed _ _ 9 0 (ends c.before.before.before.before.before.before.before)
    (passed _ _ 9 0 (period c.before.before.before.before)
    (applied _ _ 9 0 (denied c.before.within-4.ensures c.if-not-within-4.true) refl refl))

-- past the test of the cost
cost : (n : ℕ) (z : tie.Else-not-within-4)
    → let a =
    z.before.before.before.before.before.before.before.before.before.before.before.before.before.before.before.args in
    Answers (wrong_way (single a.elements a.rings a.row) 0 ∷ []) n 0
    → Answers (faults (single a.elements a.rings a.row) 0) n 0
cost n z r =
    passed _ _ n 0 (ends z.before.before.before.before.before.before.before)
    (passed _ _ n 0 (period z.before.before.before.before)
    (passed _ _ n 0 (λ h. h (granted z.before.within-4.ensures z.if-not-within-4.false)) r))

returns-6 : tie.Need-returns-then-row-rings
returns-6 c = cost 26 c.before.before (applied _ _ 26 0 c.if-row-rings.true refl refl)

returns-7 : tie.Need-returns
returns-7 c = cost 0 c.before.before (passed _ _ 0 0 (λ h. let z : ⊥ = omega (arith, c.if-row-rings.false, h) in z) done)

pub row_fault_spec : {M : Type 1} → statement M
row_fault_spec =
    tie.close
    (tie.spec
    cast-within
    within-requires
    returns
    cast-within-2
    within-requires-2
    returns-2
    returns-3
    cast-within-3
    within-requires-3
    returns-4
    cast-within-4
    cast-within-5
    within-requires-4
    returns-5
    returns-6
    returns-7)
