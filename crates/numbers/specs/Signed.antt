-- Whole numbers that can be below zero.
--
--   sum_inℤ n D z       the sum of z over the numbers below n that are in D
--   Roundedℤ n z b     n is z / b rounded down or up, b above 0
use Rattle.std.specs.Prelude.{Bool, cond, ℕ, zero, suc, ◌+◌, ◌*◌, ℤ, pos, ◌+ℤ◌, ◌-ℤ◌, ◌≤ℤ◌, ◌<ℤ◌}

unfoldable pub sum_inℤ : ℕ → (ℕ → Bool) → (ℕ → ℤ) → ℤ
sum_inℤ zero D z = pos 0
sum_inℤ (suc n) D z = sum_inℤ n D z +ℤ cond (D n) (z n) (pos 0)

pub data Roundedℤ (n : ℕ) (z : ℤ) (b : ℕ) : Type 0 where
  -- n ≤ z / b < n + 1
  down : pos (n * b) ≤ℤ z → z <ℤ pos (n * b + b) → Roundedℤ n z b
  -- n − 1 < z / b ≤ n
  up : (pos (n * b) -ℤ pos b) <ℤ z → z ≤ℤ pos (n * b) → Roundedℤ n z b
