-- Shares parted without a division: 2^36 / h, rounded up, is near enough to 1 / h for every share that there is.
use mathlib.Core.Path.{◌≡◌}
use Prim.Native.Nat.{ℕ, ◌+◌, ◌-◌, ◌*◌, ◌/◌, ◌^◌, ◌≤◌, ◌<◌}
use native.Mathlib.Nat.{mul-le-mul, mul-le-mul_left, mul-le-mul_right, lt_of_mul-lt-mul_right, div-eq_of_lt-le}
use native.Mathlib.Omega.{arith}
use Rattle.numbers.proofs.Rounding.{down_under, down_over}
use Rattle.rules.specs.Bounds.{max_slots}
use Rattle.loads.specs.Loads.{share_most}
use Rattle.interval.specs.Interval.{Inverse}

module _ (h v n : ℕ) (some : 0 < h) (short : h ≤ max_slots) (I : Inverse h v) (fits : n ≤ share_most) where
  abbrev whole : ℕ
  whole = n / h

  over : whole * 2 ^ 36 ≤ n * v
  over =
      omega (
        arith,
        mul-le-mul_left whole I.least,
        mul-le-mul_right v (down_under n h some),
      )

  under : n * v < (whole + 1) * 2 ^ 36
  under =
      let a : v * h ≤ 2 ^ 36 + (h - 1) = omega (arith, I.most) in
      let b : n + 1 ≤ (whole + 1) * h = omega (arith, down_over n h some) in
      let c : n * (h - 1) ≤ share_most * (max_slots - 1) =
      mul-le-mul fits (let d : h - 1 ≤ max_slots - 1 = omega arith in d) in
      lt_of_mul-lt-mul_right h (omega (arith, mul-le-mul_left n a, mul-le-mul_right (2 ^ 36) b, c))

  pub whole_is : n * v / 2 ^ 36 ≡ n / h
  whole_is = div-eq_of_lt-le (2 ^ 36) over under
