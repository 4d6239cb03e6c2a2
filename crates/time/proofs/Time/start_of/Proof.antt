-- start_of: where one period leads, interval k starts after k times L slots.
use mathlib.Core.Path.{◌≡◌, sym, ap, ap₂, ◌∙◌}
use Prim.Native.Nat.{ℕ, ◌*◌, ◌/◌, ◌<◌}
use native.Mathlib.Nat.{le_refl}
use native.Mathlib.Omega.{arith}
use borrow.Author.Rules.{rules}
use Rattle.numbers.specs.Lists.{at}
use Rattle.rules.specs.Bus.{Table}
use Rattle.rules.specs.Loads.{intervals, start}
use Rattle.lags.proofs.Intervals.{shortest_positive, even_start, even_whole, start_in, start_late, start_strict, start_last}
use Rattle.time.specs.declared.Time.{Time}
use Rattle.time.specs.Time.{Timed}
use Rattle.time.proofs.Periods.{leading_is}
use Rattle.time.proofs.Time.start_of.Statement.{statement}
use Rattle.time.proofs.Time.start_of.Tie as tie

module _ {t : Table} {c : Time} (T : Timed t c) (one : c.count ≡ 1) where
  count : c.hyper / c.interval ≡ intervals t
  count = ap₂ ◌/◌ T.hyper T.interval ∙ even_whole T.sound (at c.period) (rw one at (leading_is T.leads))

  here : (k : ℕ) → k * c.interval ≡ start t k
  here k = ap (λ (n : ℕ). k * n) T.interval ∙ even_start T.sound (at c.period) (rw one at (leading_is T.leads)) k

walk-to-requires : tie.Need-walk_to-requires
walk-to-requires c κs = search rules

returns : tie.Need-returns-then-self-ne1
returns c = c.walk_to.ensures

div-if2 : tie.Need-nonzero_div-self
div-if2 c = let T = c.requires.1 in omega (arith, T.interval, shortest_positive T.sound)

mul-result : tie.Need-overflow_mul-result
mul-result c =
    let z = c in
    let k = z.args.k in
    let T = z.requires.1 in
    let S = T.sound in
    let one : z.args.self.count ≡ 1 = omega arith in
    let l : k < intervals z.requires.0 = rw (count T one) at c.if-k-self.true in
    record { fits = omega (arith, here T one k, start_strict S k _ l (le_refl _), start_last S, T.short) }

returns-2 : tie.Need-returns-then-k-self
returns-2 c t T =
    let z = c in
    let k = z.args.k in
    let one : z.args.self.count ≡ 1 = omega arith in
    here T one k ∙ sym (start_in T.sound k (rw (count T one) at c.if-k-self.true))

returns-3 : tie.Need-returns
returns-3 c t T =
    let z = c in
    let one : z.args.self.count ≡ 1 = omega arith in
    T.hyper ∙ sym (start_late T.sound z.args.k (rw (count T one) at c.if-k-self.false))

pub start_of_spec : {M : Type 1} → statement M
start_of_spec =
    tie.close (tie.spec walk-to-requires returns div-if2 mul-result returns-2 returns-3)
