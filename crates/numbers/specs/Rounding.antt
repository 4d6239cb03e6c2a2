-- Fractions a / b of whole numbers, b above 0, rounded.
--
--   down a b       a / b rounded down
--   up a b         a / b rounded up
--   Rounded n a b  n is a / b rounded down or up
use Rattle.std.specs.Prelude.{◌≡◌, ◌⊎◌, ℕ, ◌+◌, ◌-◌, ◌/◌}

abbrev pub down : ℕ → ℕ → ℕ
down a b = a / b

abbrev pub up : ℕ → ℕ → ℕ
up a b = (a + (b - 1)) / b

unfoldable pub Rounded : ℕ → ℕ → ℕ → Type 0
Rounded n a b = (n ≡ down a b) ⊎ (n ≡ up a b)
