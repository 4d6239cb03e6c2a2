-- The greatest common divisor and the least common multiple of two numbers: there is one of each, and it is the only one.
use mathlib.Core.Path.{◌≡◌, sym, ap, ◌∙◌}
use mathlib.Core.Logic.{⊎_elim}
use Prim.Native.Nat.{ℕ, zero, suc, ◌+◌, ◌-◌, ◌*◌, ◌/◌, ◌%◌, ◌≤◌, ◌<◌, ◌∣◌, zero-le}
use native.Mathlib.Nat.{le_refl, eq-or-lt_of_le, mod-add-div', dvd_of_mod-eq-zero}
use native.Mathlib.Nat.{dvd_refl, dvd-zero, dvd-mod_iff, dvd_trans, dvd_antisymm, dvd-mul_left, dvd-mul_right}
use native.Mathlib.Nat.{mul-dvd-mul_left, mul-dvd-mul_right, dvd_of_mul-dvd-mul_left, dvd_of_mul-dvd-mul_right}
use native.Mathlib.Nat.{mul-div_cancel', div-mul_cancel, pos_of_dvd_of_pos, mod-lt, zero-lt-suc, mul_comm, mul_assoc, mul-pos}
use native.Mathlib.Omega.{arith}
use Rattle.numbers.specs.Pairs.{IsGcd, IsLcm}

-- ---- greatest common divisors

-- one step of the remainders
pub pair_gcd_step : (a b g : ℕ) → IsGcd b (a % b) g → IsGcd a b g
pair_gcd_step a b g G = record {
  left = (dvd-mod_iff g G.left).0 G.right;
  right = G.left;
  greatest = λ d p q. G.greatest d q ((dvd-mod_iff d q).1 p);
}

pub pair_gcd_zero : (a : ℕ) → IsGcd a 0 a
pair_gcd_zero a = record { left = dvd_refl a; right = dvd-zero a; greatest = λ d p q. p }

by_remainders : (n a b : ℕ) → b < n → (g : ℕ) × IsGcd a b g
by_remainders zero a b h = absurd (omega arith)
by_remainders (suc n) a zero h = (a, pair_gcd_zero a)
by_remainders (suc n) a (suc b) h =
    let r = by_remainders n (suc b) (a % suc b) (omega (arith, mod-lt a {m = suc b} (zero-lt-suc b))) in
    (r.0, pair_gcd_step a (suc b) r.0 r.1)

pub pair_gcd : (a b : ℕ) → (g : ℕ) × IsGcd a b g
pair_gcd a b = by_remainders (suc b) a b (omega arith)

pub pair_gcd_only : {a b g h : ℕ} → IsGcd a b g → IsGcd a b h → g ≡ h
pair_gcd_only {g = g} {h = h} G H = dvd_antisymm (H.greatest g G.left G.right) (G.greatest h H.left H.right)

pub pair_gcd_self : (a : ℕ) → IsGcd a a a
pair_gcd_self a = record { left = dvd_refl a; right = dvd_refl a; greatest = λ d p q. p }

pub pair_gcd_swap : {a b g : ℕ} → IsGcd a b g → IsGcd b a g
pair_gcd_swap G = record { left = G.right; right = G.left; greatest = λ d p q. G.greatest d q p }

-- a multiple of a that is g short of one of b: by the remainders, a step of which goes from m × r = x × b + g to m × (b − 1) × a
near : (n a b g : ℕ) → b ≤ n → 0 < b → IsGcd a b g → (x : ℕ) × (b ∣ x * a + g)
near zero a b g h pos G = absurd (omega arith)
near (suc n) a b g h pos G =
    ⊎_elim
    (λ (e : 0 ≡ a % b).
    let z : g ≡ 0 * a + g = omega arith in
    (0, rw z at (G.greatest b (dvd_of_mod-eq-zero b (sym e)) (dvd_refl b))))
    (λ (p : 0 < a % b).
    let r : ℕ = a % b in
    let q : ℕ = a / b in
    let c : ℕ = b - 1 in
    let l : r < b = mod-lt a pos in
    let B : c + 1 ≡ b = omega arith in
    let w = near n b r g (omega arith) p (record {
      left = G.right;
      right = (dvd-mod_iff g G.right).1 G.left;
      greatest = λ d u v. G.greatest d ((dvd-mod_iff d u).0 v) u;
    }) in
    let x : ℕ = w.0 in
    let m : ℕ = (x * b + g) / r in
    let M : m * r ≡ x * b + g = div-mul_cancel r w.1 in
    let A : r + q * b ≡ a = mod-add-div' a b in
    let f : (m * c * q + x * c + g) * b ≡ m * c * a + g =
    omega (arith, ap (λ (z : ℕ). m * c * z) A, ap (λ (z : ℕ). z * c) M, ap (λ (z : ℕ). g * z) B) in
    (m * c, rw f at (dvd-mul_left b (m * c * q + x * c + g))))
    (eq-or-lt_of_le zero-le)

pub pair_gcd_near : {a b g : ℕ} → 0 < b → IsGcd a b g → (x : ℕ) × (b ∣ x * a + g)
pair_gcd_near {a} {b} {g} pos G = near b a b g (le_refl b) pos G

-- what divides n × a and n × b divides n × g
pair_gcd_scaled : (n a b g d : ℕ) → 0 < n → IsGcd a b g → d ∣ n * a → d ∣ n * b → d ∣ n * g
pair_gcd_scaled n a b g d pos G p q =
    let r = pair_gcd (n * a) (n * b) in
    let e = r.0 in
    let E = r.1 in
    let f = e / n in
    let ne : n * f ≡ e = mul-div_cancel' n (E.greatest n (dvd-mul_right n a) (dvd-mul_right n b)) in
    let fa : f ∣ a = dvd_of_mul-dvd-mul_left f pos (rw ne E.left) in
    let fb : f ∣ b = dvd_of_mul-dvd-mul_left f pos (rw ne E.right) in
    dvd_trans d (E.greatest d p q) (rw (← ne) (mul-dvd-mul_left f n (G.greatest f fa fb)))

-- ---- least common multiples

-- by a greatest common divisor
pub pair_lcm_by : (a b g : ℕ) → 0 < a → IsGcd a b g → IsLcm a b (a / g * b)
pair_lcm_by a b g pa G =
    let A : a / g * g ≡ a = div-mul_cancel g G.left in
    let B : g * (b / g) ≡ b = mul-div_cancel' g G.right in
    let e : a / g * b ≡ a * (b / g) =
    ap (λ (x : ℕ). a / g * x) (sym B) ∙ sym (mul_assoc (a / g) g (b / g)) ∙ ap (λ (x : ℕ). x * (b / g)) A in
    record {
      left = rw e (dvd-mul_right a (b / g));
      right = dvd-mul_left b (a / g);
      least = least (pos_of_dvd_of_pos G.left pa) (omega (arith, ap (λ (x : ℕ). x * b) A));
    }
  where
    least : 0 < g → a / g * b * g ≡ a * b → (n : ℕ) → a ∣ n → b ∣ n → a / g * b ∣ n
    least pg e zero p q = dvd-zero (a / g * b)
    least pg e (suc n) p q =
        dvd_of_mul-dvd-mul_right (a / g * b) pg
        (rw e (pair_gcd_scaled (suc n) a b g (a * b) (zero-lt-suc n) G
        (rw (mul_comm (suc n) a) (mul-dvd-mul_left b a q))
        (mul-dvd-mul_right a p b)))

pub pair_lcm : (a b : ℕ) → 0 < a → (m : ℕ) × IsLcm a b m
pair_lcm a b pos = let r = pair_gcd a b in (a / r.0 * b, pair_lcm_by a b r.0 pos r.1)

pub pair_lcm_positive : {a b m : ℕ} → 0 < a → 0 < b → IsLcm a b m → 0 < m
pair_lcm_positive {a} {b} pa pb M = pos_of_dvd_of_pos (M.least (a * b) (dvd-mul_right a b) (dvd-mul_left b a)) (mul-pos pa pb)
