-- Digits of words: what the code's shifts and masks say of them, and the first digit in which two words differ.
use mathlib.Core.Path.{◌≡◌, refl, sym, ap, ◌∙◌}
use mathlib.Core.Bool.{Bool, true, false, not, ◌&&◌, ◌||◌, cond, true≢false, false≢true}
use mathlib.Core.Logic.{◌≢◌}
use Prim.Native.Nat.{ℕ, zero, suc, ◌*◌, ◌/◌, ◌%◌, ◌^◌, ◌<◌}
use native.Mathlib.Nat.{pow-suc}
use native.Mathlib.Omega.{arith}
use lib.Bits.{bit_and, bit_or, bit_xor, differ, xor_step, xor_shr}
use lib.Count.{count_trailing_zeros, under}
use lib.Dec.{eqb}
use borrow.Author.Tests.{eq-eqb, ne_eqb, eqb-true}
use Rattle.numbers.specs.Finite.{only, count}
use Rattle.numbers.specs.Word.{bit}
use Rattle.numbers.proofs.Finite.{only_true, only_false, sum_bump}
use Rattle.numbers.proofs.Word.{one_shl, bit_or_lem, bit_and_lem, bit_pow, bit_low, bit_suc, low_eq}

pub or_left : (p q : Bool) → p ≡ true → (p || q) ≡ true
or_left true q e = refl
or_left false q e = absurd (false≢true e)

pub or_not : (p q : Bool) → (p || q) ≡ false → p ≡ false
or_not true q e = absurd (true≢false e)
or_not false q e = refl

pub or_same : (p q : Bool) → q ≡ false → (p || q) ≡ p
or_same true q e = refl
or_same false q e = e

pub or_right : (p q : Bool) → q ≡ true → (p || q) ≡ true
or_right true q e = refl
or_right false q e = e

-- `w | (1u64 << c)`
pub bit_one_more : (w c e : ℕ) → c < 64 → bit (bit_or w (1 * 2 ^ c % 2 ^ 64)) e ≡ (bit w e || eqb e c)
bit_one_more w c e l = rw (one_shl c l) (bit_or_lem w (2 ^ c) e ∙ ap (λ (b : Bool). bit w e || b) (bit_pow c e))

-- `1u64 << c`
pub bit_first : (c e : ℕ) → c < 64 → bit (1 * 2 ^ c % 2 ^ 64) e ≡ eqb e c
bit_first c e l = rw (one_shl c l) (bit_pow c e)

-- `(w >> q) % 2 == 1`, and not so
pub bit_odd : (w q : ℕ) → w / 2 ^ q % 2 ≡ 1 → bit w q ≡ true
unfolding bit
bit_odd w q e = eq-eqb (w / 2 ^ q % 2) 1 e

pub bit_even : (w q : ℕ) → ¬ (w / 2 ^ q % 2 ≡ 1) → bit w q ≡ false
unfolding bit
bit_even w q e = ne_eqb (w / 2 ^ q % 2) 1 e

-- `(w >> q) % 2 == 0`, and not so
pub bit_none : (w q : ℕ) → w / 2 ^ q % 2 ≡ 0 → bit w q ≡ false
bit_none w q e = bit_even w q (λ (k : w / 2 ^ q % 2 ≡ 1). omega arith)

pub bit_some : (w q : ℕ) → ¬ (w / 2 ^ q % 2 ≡ 0) → bit w q ≡ true
bit_some w q e = bit_odd w q (omega arith)

-- `trailing_zeros(v ^ w)`: the first digit in which they differ
differ_zero : (a b : ℕ) → a < 2 → b < 2 → differ a b ≡ 0 → a ≡ b
differ_zero zero b p q e = sym e
differ_zero (suc zero) zero p q e = e
differ_zero (suc zero) (suc b) p q e = ap suc (sym e)
differ_zero (suc (suc a)) b p q e = absurd (omega arith)

differ_lt : (a b : ℕ) → a < 2 → b < 2 → differ a b < 2
differ_lt zero b p q = q
differ_lt (suc zero) zero p q = p
differ_lt (suc zero) (suc b) p q = omega arith
differ_lt (suc (suc a)) b p q = absurd (omega arith)

differ_same : (a b : ℕ) → a ≡ b → differ a b ≡ 0
differ_same zero b e = sym e
differ_same (suc a) zero e = absurd (omega arith)
differ_same (suc a) (suc b) e = differ_same a b (omega arith)

pub first_differ : (d a b : ℕ) → a < 2 ^ d → b < 2 ^ d → a ≢ b
    → (count_trailing_zeros d (bit_xor a b) < d) × (bit a (count_trailing_zeros d (bit_xor a b)) ≢ bit b (count_trailing_zeros d (bit_xor a b)))
    × ((j : ℕ) → j < count_trailing_zeros d (bit_xor a b) → bit a j ≡ bit b j)
unfolding count_trailing_zeros
first_differ zero a b p q ne = absurd (ne (omega arith))
first_differ (suc d) a b p q ne =
    go (bit_xor a b % 2) refl (λ (k : ¬ (a / 2 ≡ b / 2)). first_differ d (a / 2) (b / 2) (omega (arith, pow-suc 2 d))
    (omega (arith, pow-suc 2 d)) k)
  where
    la : a % 2 < 2
    la = omega arith

    lb : b % 2 < 2
    lb = omega arith

    half : bit_xor a b / 2 ≡ bit_xor (a / 2) (b / 2)
    half = omega (arith, xor_step a b, differ_lt (a % 2) (b % 2) la lb)

    low : bit_xor a b % 2 ≡ differ (a % 2) (b % 2)
    low = omega (arith, xor_step a b, differ_lt (a % 2) (b % 2) la lb)

    go : (r : ℕ) → bit_xor a b % 2 ≡ r
        → (¬ (a / 2 ≡ b / 2) → (count_trailing_zeros d (bit_xor (a / 2) (b / 2)) < d)
        × (bit (a / 2) (count_trailing_zeros d (bit_xor (a / 2) (b / 2))) ≢ bit (b / 2) (count_trailing_zeros d (bit_xor (a / 2) (b / 2))))
        × ((j : ℕ) → j < count_trailing_zeros d (bit_xor (a / 2) (b / 2)) → bit (a / 2) j ≡ bit (b / 2) j))
        → (under r (count_trailing_zeros d (bit_xor a b / 2)) < suc d)
        × (bit a (under r (count_trailing_zeros d (bit_xor a b / 2))) ≢ bit b (under r (count_trailing_zeros d (bit_xor a b / 2))))
        × ((j : ℕ) → j < under r (count_trailing_zeros d (bit_xor a b / 2)) → bit a j ≡ bit b j)
    go zero e ih =
        let z : a % 2 ≡ b % 2 = differ_zero (a % 2) (b % 2) la lb (sym low ∙ e) in
        let i = ih (λ k. ne (omega arith)) in
        rw half (
          omega (arith, i.0),
          λ k. i.1 (sym (bit_suc a _) ∙ k ∙ bit_suc b _),
          below (count_trailing_zeros d (bit_xor (a / 2) (b / 2))) z i.2,
        )
      where
        below : (t : ℕ) → a % 2 ≡ b % 2 → ((j : ℕ) → j < t → bit (a / 2) j ≡ bit (b / 2) j) → (j : ℕ) → j < suc t → bit a j ≡ bit b j
        below t z f zero l = bit_low a ∙ ap (λ (r : ℕ). eqb r 1) z ∙ sym (bit_low b)
        below t z f (suc j) l = bit_suc a j ∙ f j (omega arith) ∙ sym (bit_suc b j)
    go (suc r) e ih =
        (omega arith, λ k. absurd (omega (arith, e, low, differ_same (a % 2) (b % 2) (low_eq a b k))), λ j l. absurd (omega arith))

-- `v ^ w`
pub bit_xor_lem : (v w i : ℕ) → bit (bit_xor v w) i ≡ cond (bit w i) (not (bit v i)) (bit v i)
unfolding bit
bit_xor_lem v w i = rw (xor_shr v w i) (go (v / 2 ^ i % 2) (w / 2 ^ i % 2) (omega arith) (omega arith) low)
  where
    low : bit_xor (v / 2 ^ i) (w / 2 ^ i) % 2 ≡ differ (v / 2 ^ i % 2) (w / 2 ^ i % 2)
    low =
        let a : v / 2 ^ i % 2 < 2 = omega arith in
        let b : w / 2 ^ i % 2 < 2 = omega arith in
        omega (arith, xor_step (v / 2 ^ i) (w / 2 ^ i), differ_lt (v / 2 ^ i % 2) (w / 2 ^ i % 2) a b)

    go : (a b : ℕ) → a < 2 → b < 2 → bit_xor (v / 2 ^ i) (w / 2 ^ i) % 2 ≡ differ a b
        → eqb (bit_xor (v / 2 ^ i) (w / 2 ^ i) % 2) 1 ≡ cond (eqb b 1) (not (eqb a 1)) (eqb a 1)
    go zero zero p q e = rw e
    go zero (suc zero) p q e = rw e
    go (suc zero) zero p q e = rw e
    go (suc zero) (suc zero) p q e = rw e
    go (suc (suc a)) b p q e = absurd (omega arith)
    go zero (suc (suc b)) p q e = absurd (omega arith)
    go (suc zero) (suc (suc b)) p q e = absurd (omega arith)

pub and_both : (p q : Bool) → (p && q) ≡ true → (p ≡ true) × (q ≡ true)
and_both true q z = (refl, z)
and_both false q z = absurd (false≢true z)

-- a digit of `v & w`
pub and_left : (v w i : ℕ) → bit (bit_and v w) i ≡ true → (bit v i ≡ true) × (bit w i ≡ true)
and_left v w i e = and_both (bit v i) (bit w i) (sym (bit_and_lem v w i) ∙ e)

-- a digit of a word with one more
pub one_of : {P : Type 0} (b : Bool) (v i : ℕ) → (b || eqb v i) ≡ true → (b ≡ true → P) → (v ≡ i → P) → P
one_of true v i e f g = f refl
one_of false v i e f g = g (eqb-true v i e)

-- one digit fewer is left to be met
pub fewer : (done done' u : ℕ) → u < 64 → bit done u ≡ false → ((v : ℕ) → bit done' v ≡ (bit done v || eqb v u))
    → count 64 (λ v. not (bit done' v)) < count 64 (λ v. not (bit done v))
fewer done done' u l f one =
    omega (
      arith,
      sum_bump 64 (λ v. only (not (bit done' v)) 1) (λ v. only (not (bit done v)) 1) u 1 l
          (λ j k ne. ap (λ (b : Bool). only (not b) 1) (sym (one j ∙ or_same (bit done j) (eqb j u) (ne_eqb j u ne))))
          (rw (f, one u ∙ or_right (bit done u) (eqb u u) (eq-eqb u u refl))
          (omega (arith, only_true true 1 refl, only_false false 1 refl))),
    )

-- of two words that differ in a digit, where the second has no digit that the first has not
pub in_first : (p q : Bool) → p ≢ q → (q ≡ true → p ≡ true) → (p ≡ true) × (q ≡ false)
in_first true true ne sub = absurd (ne refl)
in_first true false ne sub = (refl, refl)
in_first false true ne sub = absurd (false≢true (sub refl))
in_first false false ne sub = absurd (ne refl)

-- what is not so of a larger word is not so of a smaller one
pub unseen : (seen seen' v : ℕ) → (bit seen v ≡ true → bit seen' v ≡ true) → bit seen' v ≡ false → bit seen v ≡ false
unseen seen seen' v wider f = go (bit seen v) refl
  where
    go : (b : Bool) → bit seen v ≡ b → b ≡ false
    go true q = absurd (true≢false (sym (wider q) ∙ f))
    go false q = refl
