-- Searches, sums and counts over the numbers below n. A set of numbers is a test on them.
--
--   any n p        some number below n has p
--   every n p      every number below n has p
--   lowest n p     the lowest number below n that has p, or n where none has
--   highest n p    the highest number below n that has p, or 0 where none has
--   only b x       x where b holds, else 0
--   sum n g        g 0 + .. + g (n − 1)
--   sum_in n D g    the sum of g over the numbers below n that are in D
--   count n p      how many numbers below n have p
--   largest n g    the largest of g 0, .., g (n − 1), or 0 where n is 0
use Rattle.std.specs.Prelude.{Bool, true, false, ◌&&◌, ◌||◌, cond, ℕ, zero, suc, ◌+◌, max}

unfoldable pub any : ℕ → (ℕ → Bool) → Bool
any zero p = false
any (suc n) p = any n p || p n

unfoldable pub every : ℕ → (ℕ → Bool) → Bool
every zero p = true
every (suc n) p = every n p && p n

unfoldable pub lowest : ℕ → (ℕ → Bool) → ℕ
lowest zero p = 0
lowest (suc n) p = let later : ℕ = lowest n (λ i. p (suc i)) in cond (p 0) 0 (suc later)

unfoldable pub highest : ℕ → (ℕ → Bool) → ℕ
highest zero p = 0
highest (suc n) p = cond (p n) n (highest n p)

unfoldable pub only : Bool → ℕ → ℕ
only true x = x
only false x = 0

unfoldable pub sum : ℕ → (ℕ → ℕ) → ℕ
sum zero g = 0
sum (suc n) g = sum n g + g n

abbrev pub sum_in : ℕ → (ℕ → Bool) → (ℕ → ℕ) → ℕ
sum_in n D g = sum n (λ i. only (D i) (g i))

abbrev pub count : ℕ → (ℕ → Bool) → ℕ
count n p = sum n (λ i. only (p i) 1)

unfoldable pub largest : ℕ → (ℕ → ℕ) → ℕ
largest zero g = 0
largest (suc n) g = max (largest n g) (g n)
