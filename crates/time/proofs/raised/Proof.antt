-- raised: a first period is taken as it is, what divides h is raised to nothing, and else h / gcd × period fits, as both are small.
use native.Mathlib.Nat.{mul-le-mul, div-le_self, le_trans, pos_of_dvd_of_pos, dvd_of_mod-eq-zero}
use native.Mathlib.Omega.{arith}
use borrow.Author.Rules.{rules}
use Rattle.numbers.proofs.Pairs.{pair_gcd_step, pair_lcm_by}
use Rattle.time.proofs.Periods.{lcm_kept, lcm_first}
use Rattle.time.proofs.raised.Statement.{statement}
use Rattle.time.proofs.raised.Tie as tie

returns : tie.Need-returns-then-h-eq1
returns c = rw c.if-h-eq1.true (lcm_first _)

rem-rest : tie.Need-nonzero_rem-rest
rem-rest c = search rules

returns-2 : tie.Need-returns-then-rest-eq0
returns-2 c = lcm_kept (dvd_of_mod-eq-zero _ c.if-rest-eq0.true)

gcd-of-requires : tie.Need-gcd_of-requires
gcd-of-requires c κs = search rules

div-result : tie.Need-nonzero_div-result
div-result c = pos_of_dvd_of_pos c.gcd_of.ensures.left c.requires.2

mul-result : tie.Need-overflow_mul-result
mul-result c =
    let z = c in
    let small = le_trans (div-le_self z.args.h c.gcd_of.result) z.requires.1 in
    omega (arith, mul-le-mul small z.requires.3)

returns-3 : tie.Need-returns
returns-3 c =
    let z = c in
    pair_lcm_by z.args.h z.args.period c.gcd_of.result z.requires.0
    (pair_gcd_step z.args.h z.args.period c.gcd_of.result c.gcd_of.ensures)

pub raised_spec : {M : Type 1} → statement M
raised_spec = tie.close (tie.spec returns rem-rest returns-2 gcd-of-requires div-result mul-result returns-3)
