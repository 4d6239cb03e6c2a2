-- gcd_of: the remainders keep the common divisors.
use Prim.Native.Nat.{ℕ}
use native.Mathlib.Nat.{mod-lt}
use native.Mathlib.Omega.{arith}
use Rattle.numbers.specs.Pairs.{IsGcd}
use Rattle.numbers.proofs.Pairs.{pair_gcd_step, pair_gcd_zero}
use Rattle.numbers.proofs.gcd_of.Statement.{statement}
use Rattle.numbers.proofs.gcd_of.Tie as tie

-- what is the greatest common divisor of x and y is that of a and b
abbrev invariant-loop : tie.invariant-loop-y
invariant-loop a b x₀ y₀ x y = (g : ℕ) → IsGcd x y g → IsGcd a b g

abbrev decreases-loop : tie.decreases-loop-y
decreases-loop a b x₀ y₀ x y = y

loop-holds : tie.Need-loop-y-init invariant-loop decreases-loop
loop-holds c = λ g G. G

rem-r : tie.Need-nonzero_rem-r invariant-loop decreases-loop
rem-r c = omega arith

loop-less : tie.Need-loop-y-smaller invariant-loop decreases-loop
loop-less c = mod-lt c.before.loop-y.x (rem-r c)

loop-again : tie.Need-loop-y-preserved invariant-loop decreases-loop
loop-again c = λ g G. c.before.loop-y.invariant g (pair_gcd_step c.before.loop-y.x c.before.loop-y.y g G)

returns : tie.Need-returns invariant-loop decreases-loop
returns c = c.before.loop-y.invariant c.before.loop-y.x (rw c.loop-y-test.false (pair_gcd_zero c.before.loop-y.x))

pub gcd_of_spec : {M : Type 1} → statement M
gcd_of_spec = tie.close (tie.spec invariant-loop decreases-loop loop-holds rem-r loop-less loop-again returns)
