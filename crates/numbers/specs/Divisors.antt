-- Divisors and multiples of the numbers g 0, .., g (n − 1), which are above 0.
--
--   divides d m    d divides m
--   product n g    g 0 × .. × g (n − 1)
--   gcd n g        their greatest common divisor
--   lcm n g        their least common multiple; the product is one, so none above it is looked at
--   leading n g    those that are no multiple of one before, in order
--   Leads n g m f  f 0, .., f (m − 1) are some of g 0, .., g (n − 1), and each of these is a multiple of one of them
--   Past n g s r   r is the first number past s that one of them divides
use Rattle.std.specs.Prelude.{◌≡◌, Bool, ◌&&◌, cond, List, [], ◌∷◌, ℕ, zero, suc, ◌*◌, ◌%◌, ◌<◌, eqb, ltb}
use Rattle.std.specs.Int.{◌∣◌}
use Rattle.numbers.specs.Finite.{any, every, lowest, highest}
use Rattle.numbers.specs.Lists.{each}

abbrev pub divides : ℕ → ℕ → Bool
divides d m = eqb (m % d) 0

unfoldable pub product : ℕ → (ℕ → ℕ) → ℕ
product zero g = 1
product (suc n) g = product n g * g n

unfoldable pub gcd : ℕ → (ℕ → ℕ) → ℕ
gcd n g = highest (suc (g 0)) (λ d. every n (λ i. divides d (g i)))

unfoldable pub lcm : ℕ → (ℕ → ℕ) → ℕ
lcm n g = lowest (suc (product n g)) (λ m. ltb 0 m && every n (λ i. divides (g i) m))

unfoldable pub leading : ℕ → (ℕ → ℕ) → List ℕ
leading n g = each n (λ i. cond (any i (λ j. divides (g j) (g i))) [] (g i ∷ []))

pub record Leads (n : ℕ) (g : ℕ → ℕ) (m : ℕ) (f : ℕ → ℕ) : Type 0 where
  pub among : (k : ℕ) → k < m → (i : ℕ) × (i < n) × (f k ≡ g i)
  pub under : (i : ℕ) → i < n → (k : ℕ) × (k < m) × (f k ∣ g i)

pub record Past (n : ℕ) (g : ℕ → ℕ) (s r : ℕ) : Type 0 where
  pub past : s < r
  pub some : (i : ℕ) × (i < n) × (g i ∣ r)
  pub none : (i u : ℕ) → i < n → s < u → u < r → g i ∣ u → ⊥
