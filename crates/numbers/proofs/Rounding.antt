-- Rounding: what a fraction a / b rounded down or up is, said by products alone.
-- n is a / b rounded down or up just when a < (n + 1) × b and n × b < a + b.
use mathlib.Core.Path.{◌≡◌, sym}
use mathlib.Core.Logic.{◌↔◌, ◌⊎◌, inl, inr, ⊎_elim}
use Prim.Native.Nat.{ℕ, ◌+◌, ◌-◌, ◌*◌, ◌≤◌, ◌<◌}
use native.Mathlib.Decide.{dec_le, ℕ_discrete}
use native.Mathlib.Nat.{le_refl, div-mul-le_self, lt-div-mul-add, div-eq_of_lt-le, le-div_iff_mul-le, div-lt_iff_lt-mul, lt_of_not-le}
use native.Mathlib.Nat.{mul-pos, mul-le-mul_right, mul-lt-mul_of_pos_right, lt_of_mul-lt-mul_right}
use native.Mathlib.Omega.{arith}
use Rattle.numbers.specs.Rounding.{down, up, Rounded}

module _ (a b : ℕ) (pos : 0 < b) where
  -- ---- rounded down, rounded up

  pub down_under : down a b * b ≤ a
  down_under = div-mul-le_self a b

  pub down_over : a < (down a b + 1) * b
  down_over = omega (arith, lt-div-mul-add {a = a} pos)

  pub up_over : a ≤ up a b * b
  up_over = omega (arith, lt-div-mul-add {a = a + (b - 1)} pos)

  pub up_under : up a b * b < a + b
  up_under = omega (arith, div-mul-le_self (a + (b - 1)) b)

  -- down is the greatest n with n × b ≤ a, up the least with a ≤ n × b
  pub down_greatest : (n : ℕ) → n * b ≤ a → n ≤ down a b
  down_greatest n h = (le-div_iff_mul-le pos).1 h

  pub up_least : (n : ℕ) → a ≤ n * b → up a b ≤ n
  up_least n h =
      let l : a + (b - 1) < (n + 1) * b = omega arith in
      omega (arith, (div-lt_iff_lt-mul {y = n + 1} pos).1 l)

  pub down_up : down a b ≤ up a b
  down_up = (le-div_iff_mul-le pos).1 (omega (arith, down_under))

  pub up_next : up a b ≤ down a b + 1
  up_next = up_least (down a b + 1) (omega (arith, down_over))

  -- ---- rounded down or up

  pub rounded_is : (n : ℕ) → Rounded n a b → (a < (n + 1) * b) × (n * b < a + b)
  unfolding Rounded
  rounded_is n (inl e) = rw e (down_over, omega (arith, down_under))
  rounded_is n (inr e) = rw e (omega (arith, up_over), up_under)

  pub rounded_of : (n : ℕ) → a < (n + 1) * b → n * b < a + b → Rounded n a b
  unfolding Rounded
  rounded_of n h k = go (dec_le (n * b) a)
    where
      go : Dec (n * b ≤ a) → (n ≡ down a b) ⊎ (n ≡ up a b)
      go (yes l) = inl (sym (div-eq_of_lt-le b l h))
      go (no f) = let l : a < n * b = lt_of_not-le f in inr (sym (div-eq_of_lt-le b (omega arith) (omega arith)))

  pub rounded_between : (n : ℕ) → Rounded n a b → (down a b ≤ n) × (n ≤ up a b)
  unfolding Rounded
  rounded_between n (inl e) = rw e (le_refl (down a b), down_up)
  rounded_between n (inr e) = rw e (down_up, le_refl (up a b))

  pub between_rounded : (n : ℕ) → down a b ≤ n → n ≤ up a b → Rounded n a b
  between_rounded n h k =
      rounded_of n
      (omega (arith, down_over, mul-le-mul_right b h))
      (omega (arith, up_under, mul-le-mul_right b k))

-- ---- the same fraction in other units

pub rounded_scaled : (n a b c : ℕ) → 0 < b → 0 < c → Rounded n (a * c) (b * c) ↔ Rounded n a b
rounded_scaled n a b c pb pc = (narrow, widen)
  where
    bc : 0 < b * c
    bc = mul-pos pb pc

    narrow : Rounded n (a * c) (b * c) → Rounded n a b
    narrow r =
        let z = rounded_is (a * c) (b * c) bc n r in
        rounded_of a b pb n
        (lt_of_mul-lt-mul_right c (omega (arith, z.0)))
        (lt_of_mul-lt-mul_right c (omega (arith, z.1)))

    widen : Rounded n a b → Rounded n (a * c) (b * c)
    widen r =
        let z = rounded_is a b pb n r in
        rounded_of (a * c) (b * c) bc n
        (omega (arith, mul-lt-mul_of_pos_right z.0 pc))
        (omega (arith, mul-lt-mul_of_pos_right z.1 pc))

-- ---- a whole number

pub rounded_whole : (n m b : ℕ) → 0 < b → Rounded n (m * b) b → n ≡ m
rounded_whole n m b pos r =
    let z = rounded_is (m * b) b pos n r in
    let l : m < n + 1 = lt_of_mul-lt-mul_right b z.0 in
    let k : n < m + 1 = lt_of_mul-lt-mul_right b (omega (arith, z.1)) in
    omega arith

-- it is decided whether n is a / b rounded down or up
pub rounded_dec : (n a b : ℕ) → Dec (Rounded n a b)
unfolding Rounded
rounded_dec n a b = go (ℕ_discrete n (down a b)) (ℕ_discrete n (up a b))
  where
    go : Dec (n ≡ down a b) → Dec (n ≡ up a b) → Dec ((n ≡ down a b) ⊎ (n ≡ up a b))
    go (yes e) d = yes (inl e)
    go (no f) (yes e) = yes (inr e)
    go (no f) (no g) = no (λ r. ⊎_elim f g r)

pub rounded_stable : (n a b : ℕ) → ¬ ¬ Rounded n a b → Rounded n a b
rounded_stable n a b h = go (rounded_dec n a b)
  where
    go : Dec (Rounded n a b) → Rounded n a b
    go (yes r) = r
    go (no f) = absurd (h f)

-- a whole number more on both sides
pub rounded_shift : (n m a b : ℕ) → 0 < b → Rounded (n + m) (a + n * b) b ↔ Rounded m a b
rounded_shift n m a b pos = (
  λ r. let z = rounded_is (a + n * b) b pos (n + m) r in rounded_of a b pos m (omega arith) (omega arith),
  λ r. let z = rounded_is a b pos m r in rounded_of (a + n * b) b pos (n + m) (omega arith) (omega arith),
)

module _ (a b : ℕ) (pos : 0 < b) where
  pub up_more : down a b * b < a → up a b ≡ down a b + 1
  up_more h =
      let l : down a b < up a b = lt_of_mul-lt-mul_right b (omega (arith, up_over a b pos)) in
      omega (arith, up_next a b pos)

  pub up_same : a ≤ down a b * b → up a b ≡ down a b
  up_same h = omega (arith, up_least a b pos (down a b) h, down_up a b pos)
