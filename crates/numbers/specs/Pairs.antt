-- The greatest common divisor and the least common multiple of two numbers, by what each does.
--
--   IsGcd a b g    g divides both, and whatever divides both divides g
--   IsLcm a b m    both divide m, and m divides whatever both divide
--   LeastGcd n g l l is the least greatest common divisor of any two of g 0, .., g (n − 1), a number and itself among them
use Rattle.std.specs.Prelude.{ℕ, ◌≤◌, ◌<◌}
use Rattle.std.specs.Int.{◌∣◌}

pub record IsGcd (a b g : ℕ) : Type 0 where
  pub left : g ∣ a
  pub right : g ∣ b
  pub greatest : (d : ℕ) → d ∣ a → d ∣ b → d ∣ g

pub record IsLcm (a b m : ℕ) : Type 0 where
  pub left : a ∣ m
  pub right : b ∣ m
  pub least : (n : ℕ) → a ∣ n → b ∣ n → m ∣ n

pub record LeastGcd (n : ℕ) (g : ℕ → ℕ) (l : ℕ) : Type 0 where
  pub some : (i : ℕ) × (j : ℕ) × (i < n) × (j < n) × IsGcd (g i) (g j) l
  pub least : (i j d : ℕ) → i < n → j < n → IsGcd (g i) (g j) d → l ≤ d
