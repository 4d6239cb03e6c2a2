-- L is no shorter than the greatest common divisor of all periods, so its bound is no lower and no more rows are light (#105).
use mathlib.Core.Path.{◌≡◌, ap}
use mathlib.Core.Logic.{⊎_elim}
use mathlib.Core.Bool.{Bool, true, false, not, cond}
use Prim.Native.Nat.{ℕ, ◌+◌, ◌-◌, ◌*◌, ◌≤◌, ◌<◌}
use native.Mathlib.Nat.{le_of_dvd, mul-le-mul_left, mul-le-mul_right, le_of_mul-le-mul_right}
use native.Mathlib.Omega.{arith}
use lib.Dec.{T, ltb, ltb→lt, lt→ltb}
use Rattle.numbers.proofs.Truth.{both, fst, snd, le_or_lt}
use Rattle.numbers.proofs.Divisors.{gcd_divides, gcd_positive}
use Rattle.rules.specs.Bus.{Table}
use Rattle.rules.specs.Loads.{hyperperiod, shortest, load, equal_periods, light, past, over}
use Rattle.table.specs.Sound.{Sound}
use Rattle.lags.specs.Stays.{common, light_before, over_before, Stays}
use Rattle.lags.proofs.Intervals.{period_positive, shortest_positive, shortest_gcd}

module _ {t : Table} (S : Sound t) where
  common_positive : 0 < common t
  common_positive = gcd_positive t.rows t.period S.rows_low (period_positive S)

  common_le : common t ≤ shortest t
  common_le =
      let r = (shortest_gcd S).some in
      let d = gcd_divides t.rows t.period S.rows_low (period_positive S) in
      le_of_dvd (shortest_positive S) (r.4.greatest (common t) (d r.0 r.2) (d r.1 r.3))

  light_before_lem : (i : ℕ) → T (light t i) → T (light_before t i)
  unfolding light
  light_before_lem i h =
      let e : Bool = not (equal_periods t) in
      let b : Bool = ltb (t.cost i * shortest t) (t.period i) in
      both e (ltb (t.cost i * common t) (t.period i)) (fst e b h)
      (lt→ltb (t.cost i * common t) (t.period i)
      (omega (arith, ltb→lt (t.cost i * shortest t) (t.period i) (snd e b h), mul-le-mul_left (t.cost i) common_le)))

  -- a load within the bound of the one is within that of the other: it is h at most, and each slot more brings no more than h
  within : (x : ℕ) → x * common t ≤ (common t - 1) * hyperperiod t → x * shortest t ≤ (shortest t - 1) * hyperperiod t
  within x l =
      let h : ℕ = hyperperiod t in
      let g : ℕ = common t in
      let d : ℕ = shortest t - g in
      let low : g - 1 ≤ g = omega arith in
      let small : x ≤ h = le_of_mul-le-mul_right {k = g} (omega (arith, mul-le-mul_right h low)) common_positive in
      let e : shortest t ≡ g + d = omega (arith, common_le) in
      let f : shortest t - 1 ≡ g - 1 + d = omega (arith, common_le, common_positive) in
      omega (arith, ap (λ (k : ℕ). x * k) e, ap (λ (k : ℕ). k * h) f, mul-le-mul_right d small)

  over_before_lem : (D : ℕ → Bool) → T (over t D) → T (over_before t D)
  unfolding past over
  over_before_lem D =
      go (equal_periods t)
    where
      now : Bool
      now = ltb ((shortest t - 1) * hyperperiod t) (load t D * shortest t)

      then : Bool
      then = ltb ((common t - 1) * hyperperiod t) (load t D * common t)

      more : T now → T then
      more k =
          ⊎_elim
          (λ (a : load t D * common t ≤ (common t - 1) * hyperperiod t).
          absurd (omega (arith, within (load t D) a, ltb→lt ((shortest t - 1) * hyperperiod t) (load t D * shortest t) k)))
          (λ a. lt→ltb ((common t - 1) * hyperperiod t) (load t D * common t) a)
          (le_or_lt (load t D * common t) ((common t - 1) * hyperperiod t))

      go : (b : Bool) → T (cond b (ltb (hyperperiod t) (load t D)) now) → T (cond b (ltb (hyperperiod t) (load t D)) then)
      go true k = k
      go false k = more k

pub stays : Stays
stays t S = (light_before_lem S, over_before_lem S)
