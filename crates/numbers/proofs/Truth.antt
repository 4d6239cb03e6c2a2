-- Bool tests as facts. `T b` says that the test b holds, `T b → ⊥` that it fails; code hands over `b ≡ true` and `b ≡ false`.
use mathlib.Core.Path.{◌≡◌, refl, sym, subst}
use mathlib.Core.Logic.{◌⊎◌, inl, inr, ⊎_elim, ◌≢◌}
use mathlib.Core.Bool.{Bool, true, false, not, ◌&&◌, ◌||◌}
use Prim.Native.Nat.{ℕ, ◌≤◌, ◌<◌}
use native.Mathlib.Nat.{lt_of_not-le}
use native.Mathlib.Decide.{dec_le, ℕ_discrete}
use native.Mathlib.Omega.{arith}
use lib.Dec.{T, eqb, eqb_refl, not_T, T_not}
use Rattle.numbers.specs.Decides.{Decides}

-- ---- both, either

pub both : (a b : Bool) → T a → T b → T (a && b)
both true b p q = q
both false b p q = p

pub fst : (a b : Bool) → T (a && b) → T a
fst true b h = tt
fst false b h = h

pub snd : (a b : Bool) → T (a && b) → T b
snd true b h = h
snd false b h = absurd h

pub orl : (a b : Bool) → T a → T (a || b)
orl true b h = tt
orl false b h = absurd h

pub orr : (a b : Bool) → T b → T (a || b)
orr true b h = tt
orr false b h = h

pub or_cases : (a b : Bool) → T (a || b) → T a ⊎ T b
or_cases true b h = inl tt
or_cases false b h = inr h

-- ---- a test holds or fails

pub decide : (b : Bool) → T b ⊎ (T b → ⊥)
decide true = inl tt
decide false = inr (λ h. h)

pub refuted : (b : Bool) → (T b → ⊥) → T (not b)
refuted = not_T

pub refutes : (b : Bool) → T (not b) → T b → ⊥
refutes = T_not

pub is_true : (b : Bool) → T b → b ≡ true
is_true true h = refl
is_true false h = absurd h

pub is_false : (b : Bool) → (T b → ⊥) → b ≡ false
is_false true h = absurd (h tt)
is_false false h = refl

-- ---- equal tests

pub along : {a b : Bool} → a ≡ b → T a → T b
along e h = subst T e h

pub of_true : {b : Bool} → b ≡ true → T b
of_true e = along (sym e) tt

pub of_false : {b : Bool} → b ≡ false → T b → ⊥
of_false e h = along e h

-- tests that imply each other are equal
pub same : (a b : Bool) → (T a → T b) → (T b → T a) → a ≡ b
same true true f g = refl
same true false f g = absurd (f tt)
same false true f g = absurd (g tt)
same false false f g = refl

-- ---- tests of numbers

pub eqb_of : (a b : ℕ) → a ≡ b → T (eqb a b)
eqb_of a b e = subst (λ (k : ℕ). T (eqb a k)) e (eqb_refl a)

pub le_or_lt : (a b : ℕ) → (a ≤ b) ⊎ (b < a)
le_or_lt a b = go (dec_le a b)
  where
    go : Dec (a ≤ b) → (a ≤ b) ⊎ (b < a)
    go (yes h) = inl h
    go (no h) = inr (lt_of_not-le h)

-- p and q need to agree only where a holds
pub and_under : (a p q : Bool) → (T a → p ≡ q) → (a && p) ≡ (a && q)
and_under true p q h = h tt
and_under false p q h = refl

-- ---- what is not refuted of numbers holds

pub limits : (x a b : ℕ) → (((a ≤ x) × (x ≤ b) → ⊥) → ⊥) → (a ≤ x) × (x ≤ b)
limits x a b h = (
  ⊎_elim (λ l. l) (λ l. absurd (h (λ w. let z : ⊥ = omega arith in z))) (le_or_lt a x),
  ⊎_elim (λ l. l) (λ l. absurd (h (λ w. let z : ⊥ = omega arith in z))) (le_or_lt x b),
)

pub equals : (x y : ℕ) → (x ≢ y → ⊥) → x ≡ y
equals x y h = go (ℕ_discrete x y)
  where
    go : Dec (x ≡ y) → x ≡ y
    go (yes e) = e
    go (no n) = absurd (h n)

-- ---- tests that decide

pub decides_yes : {A : Type 0} → A → Decides A true
decides_yes a = record { holds = λ e. a; fails = λ e. absurd (of_false e tt) }

pub decides_no : {A : Type 0} → (A → ⊥) → Decides A false
decides_no h = record { holds = λ e. absurd (of_true e); fails = λ e a. h a }

-- what a branch on a test that is not met shows

pub denied : {A : Type 0} {b : Bool} → Decides A b → b ≡ false → A → ⊥
denied d e = d.fails e

pub granted : {A : Type 0} {b : Bool} → Decides A b → b ≡ true → A
granted d e = d.holds e
