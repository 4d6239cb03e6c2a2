-- Laws of the bits of a word: what the operations on words do to each bit, and that the bits fix the word.
use mathlib.Core.Path.{◌≡◌, refl, sym, ap, ap₂, ◌∙◌}
use mathlib.Core.Logic.{⊎_elim}
use mathlib.Core.Bool.{Bool, true, false, not, ◌&&◌, ◌||◌, cond}
use Prim.Native.Nat.{ℕ, zero, suc, ◌+◌, ◌*◌, ◌-◌, ◌/◌, ◌%◌, ◌^◌, ◌≤◌, ◌<◌}
use native.Mathlib.Nat.{not-suc-le-zero, div-one, div-eq_of_lt, mod-eq_of_lt, one-mul, mod-lt, lt_of_not-le, le_trans, pow-suc}
use native.Mathlib.Numerals.{add-one, one-add}
use native.Mathlib.Omega.{arith}
use lib.Arith.{half_le}
use lib.Bits.{bit_or, bit_and, bit_xor, or_shr, or_mod, and_shr, and_mod, xor_shr, xor_mod, shifted_half, shifted_even, or_zero_r}
use lib.Dec.{T, eqb, leb, ltb, eqb→eq, lit<, leb→le, le→leb, ltb→lt, lt→ltb, eqb-zero-suc, eqb-suc-zero, eqb-suc-suc}
use lib.Pow.{pow_pos, pow_mono, pow-lt, shr-shr}
use Rattle.numbers.specs.Finite.{only}
use Rattle.numbers.specs.Word.{bit, Stretch, word}
use Rattle.numbers.proofs.Truth.{both, fst, snd, orl, orr, or_cases, same, along, is_false, eqb_of, is_true}
use Rattle.numbers.proofs.Finite.{below, only_true, only_false}

-- ---- what the code writes

-- `(w >> i) % 2 == 1`
pub bit_shr : (w i : ℕ) → eqb (w / 2 ^ i % 2) 1 ≡ bit w i
unfolding bit
bit_shr w i = refl

-- `1u64 << i`
pub one_shl : (i : ℕ) → i < 64 → 1 * 2 ^ i % 2 ^ 64 ≡ 2 ^ i
one_shl i h = ap (λ (k : ℕ). k % 2 ^ 64) (one-mul (2 ^ i)) ∙ mod-eq_of_lt (pow-lt h)

-- ---- bit by bit

-- to prove a thing of two binary digits, prove it of each pair
digits : (P : ℕ → ℕ → Type 0) → P 0 0 → P 0 1 → P 1 0 → P 1 1 → (a b : ℕ) → a < 2 → b < 2 → P a b
digits P x y z u zero zero h k = x
digits P x y z u zero (suc zero) h k = y
digits P x y z u (suc zero) zero h k = z
digits P x y z u (suc zero) (suc zero) h k = u
digits P x y z u (suc (suc a)) b h k = absurd (omega arith)
digits P x y z u zero (suc (suc b)) h k = absurd (omega arith)
digits P x y z u (suc zero) (suc (suc b)) h k = absurd (omega arith)

-- the same, of the lowest digits of two words
low_digits : (P : ℕ → ℕ → Type 0) → P 0 0 → P 0 1 → P 1 0 → P 1 1 → (v w : ℕ) → P (v % 2) (w % 2)
low_digits P x y z u v w = digits P x y z u (v % 2) (w % 2) (mod-lt v (lit< tt)) (mod-lt w (lit< tt))

pub bit_zero : (i : ℕ) → bit 0 i ≡ false
unfolding bit
bit_zero i = ap (λ (k : ℕ). eqb (k % 2) 1) (div-eq_of_lt (pow_pos i))

-- bit 0 is the lowest binary digit
pub bit_low : (w : ℕ) → bit w 0 ≡ eqb (w % 2) 1
unfolding bit
bit_low w = ap (λ (k : ℕ). eqb (k % 2) 1) (div-one w)

pub bit_suc : (w i : ℕ) → bit w (suc i) ≡ bit (w / 2) i
unfolding bit
bit_suc w i = ap (λ (k : ℕ). eqb (k % 2) 1) (ap (λ (k : ℕ). w / 2 ^ k) (sym (one-add i)) ∙ sym (shr-shr w 1 i))

pub bit_or_lem : (v w i : ℕ) → bit (bit_or v w) i ≡ (bit v i || bit w i)
unfolding bit
bit_or_lem v w i =
    ap (λ (k : ℕ). eqb (k % 2) 1) (or_shr v w i) ∙ ap (λ (k : ℕ). eqb k 1) (or_mod (v / 2 ^ i) (w / 2 ^ i) 1)
    ∙ low_digits (λ a b. eqb (bit_or a b) 1 ≡ (eqb a 1 || eqb b 1)) refl refl refl refl (v / 2 ^ i) (w / 2 ^ i)

pub bit_and_lem : (v w i : ℕ) → bit (bit_and v w) i ≡ (bit v i && bit w i)
unfolding bit
bit_and_lem v w i =
    ap (λ (k : ℕ). eqb (k % 2) 1) (and_shr v w i) ∙ ap (λ (k : ℕ). eqb k 1) (and_mod (v / 2 ^ i) (w / 2 ^ i) 1)
    ∙ low_digits (λ a b. eqb (bit_and a b) 1 ≡ (eqb a 1 && eqb b 1)) refl refl refl refl (v / 2 ^ i) (w / 2 ^ i)

pub bit_xor_lem : (v w i : ℕ) → bit (bit_xor v w) i ≡ cond (bit v i) (not (bit w i)) (bit w i)
unfolding bit
bit_xor_lem v w i =
    ap (λ (k : ℕ). eqb (k % 2) 1) (xor_shr v w i) ∙ ap (λ (k : ℕ). eqb k 1) (xor_mod (v / 2 ^ i) (w / 2 ^ i) 1)
    ∙ low_digits (λ a b. eqb (bit_xor a b) 1 ≡ cond (eqb a 1) (not (eqb b 1)) (eqb b 1)) refl refl refl refl (v / 2 ^ i) (w / 2 ^ i)

half_pow : (i : ℕ) → 2 ^ suc i / 2 ≡ 2 ^ i
half_pow i = ap (λ (k : ℕ). k / 2) (sym (one-mul (2 ^ suc i))) ∙ shifted_half 1 i ∙ one-mul (2 ^ i)

even_pow : (i : ℕ) → 2 ^ suc i % 2 ≡ 0
even_pow i = ap (λ (k : ℕ). k % 2) (sym (one-mul (2 ^ suc i))) ∙ shifted_even 1 i

pub bit_pow : (i j : ℕ) → bit (2 ^ i) j ≡ eqb j i
bit_pow zero zero = bit_low 1
bit_pow zero (suc j) = bit_suc 1 j ∙ bit_zero j ∙ sym (eqb-suc-zero j)
bit_pow (suc i) zero = bit_low (2 ^ suc i) ∙ ap (λ (k : ℕ). eqb k 1) (even_pow i) ∙ sym (eqb-zero-suc i)
bit_pow (suc i) (suc j) = bit_suc (2 ^ suc i) j ∙ ap (λ (k : ℕ). bit k j) (half_pow i) ∙ bit_pow i j ∙ sym (eqb-suc-suc j i)

-- ---- a stretch of bits

pub inside : (a b k : ℕ) → T (leb a k && ltb k b) → (a ≤ k) × (k < b)
inside a b k t = (leb→le a k (fst (leb a k) (ltb k b) t), ltb→lt k b (snd (leb a k) (ltb k b) t))

-- a test that holds just when k is inside
within : (a b k : ℕ) {p : Bool} → (T p → (a ≤ k) × (k < b)) → ((a ≤ k) × (k < b) → T p) → p ≡ (leb a k && ltb k b)
within a b k {p} f g =
    same p (leb a k && ltb k b)
    (λ t. let w = f t in both (leb a k) (ltb k b) (le→leb a k w.0) (lt→ltb k b w.1))
    (λ t. g (inside a b k t))

-- no bit at all
pub stretch_none : (a b : ℕ) → b ≤ a → Stretch a b 0
stretch_none a b h = record {
  bits = λ k. bit_zero k ∙ within a b k (λ t. absurd t) (λ w. let z : ⊥ = omega arith in absurd z);
}

pub stretch_pow : (k a b : ℕ) → a ≤ b → bit (2 ^ b - 2 ^ a) k ≡ (leb a k && ltb k b)
stretch_pow k zero zero h = (stretch_none 0 0 h).bits k
stretch_pow k (suc a) zero h = absurd (not-suc-le-zero h)
stretch_pow zero zero (suc b) h =
    let odd : (2 ^ suc b - 2 ^ 0) % 2 ≡ 1 = omega (arith, pow-suc 2 b, pow_pos b) in
    bit_low (2 ^ suc b - 2 ^ 0) ∙ ap (λ (x : ℕ). eqb x 1) odd ∙ within 0 (suc b) 0 (λ t. (omega arith, omega arith)) (λ w. tt)
stretch_pow zero (suc a) (suc b) h =
    let even : (2 ^ suc b - 2 ^ suc a) % 2 ≡ 0 = omega (arith, pow-suc 2 b, pow-suc 2 a) in
    bit_low (2 ^ suc b - 2 ^ suc a) ∙ ap (λ (x : ℕ). eqb x 1) even
    ∙ within (suc a) (suc b) 0 (λ t. absurd t) (λ w. let z : ⊥ = omega arith in absurd z)
stretch_pow (suc k) zero (suc b) h =
    let half : (2 ^ suc b - 2 ^ 0) / 2 ≡ 2 ^ b - 2 ^ 0 = omega (arith, pow-suc 2 b, pow_pos b) in
    bit_suc (2 ^ suc b - 2 ^ 0) k ∙ ap (λ (x : ℕ). bit x k) half ∙ stretch_pow k zero b (omega arith)
    ∙ within 0 (suc b) (suc k) (λ t. let w = inside 0 b k t in (omega arith, omega arith))
    (λ w. both (leb 0 k) (ltb k b) (le→leb 0 k (omega arith)) (lt→ltb k b (omega arith)))
stretch_pow (suc k) (suc a) (suc b) h =
    let half : (2 ^ suc b - 2 ^ suc a) / 2 ≡ 2 ^ b - 2 ^ a = omega (arith, pow-suc 2 b, pow-suc 2 a) in
    bit_suc (2 ^ suc b - 2 ^ suc a) k ∙ ap (λ (x : ℕ). bit x k) half ∙ stretch_pow k a b (omega arith)
    ∙ within (suc a) (suc b) (suc k) (λ t. let w = inside a b k t in (omega arith, omega arith))
    (λ w. both (leb a k) (ltb k b) (le→leb a k (omega arith)) (lt→ltb k b (omega arith)))

-- ---- the bits fix the word

pub low_eq : (v w : ℕ) → bit v 0 ≡ bit w 0 → v % 2 ≡ w % 2
low_eq v w e =
    low_digits (λ a b. eqb a 1 ≡ eqb b 1 → a ≡ b) (λ q. refl) (λ q. absurd (along (sym q) tt)) (λ q. absurd (along q tt)) (λ q. refl) v w
    (sym (bit_low v) ∙ e ∙ bit_low w)

-- by recursion on a bound of both
ext : (f v w : ℕ) → v ≤ f → w ≤ f → ((i : ℕ) → bit v i ≡ bit w i) → v ≡ w
ext zero v w hv hw e = omega arith
ext (suc f) v w hv hw e =
    omega (arith, low_eq v w (e 0), ext f (v / 2) (w / 2) (half_le hv) (half_le hw) (λ i. sym (bit_suc v i) ∙ e (suc i) ∙ bit_suc w i))

pub bit_ext : (v w : ℕ) → ((i : ℕ) → bit v i ≡ bit w i) → v ≡ w
bit_ext v w e = ext (v + w) v w (omega arith) (omega arith) e

-- a set bit is below the word's length
pub bit_lt : (n w i : ℕ) → w < 2 ^ n → T (bit w i) → i < n
unfolding bit
bit_lt n w i h t = lt_of_not-le (λ (k : n ≤ i). along (ap (λ (x : ℕ). eqb (x % 2) 1) (div-eq_of_lt (le_trans h (pow_mono k)))) t)

-- a word with no bit at n or above
pub lt_of_bits : (n w : ℕ) → ((i : ℕ) → n ≤ i → T (bit w i) → ⊥) → w < 2 ^ n
lt_of_bits zero w h = omega (arith, bit_ext w 0 (λ i. is_false (bit w i) (h i (omega arith)) ∙ sym (bit_zero i)))
lt_of_bits (suc n) w h =
    omega (arith, pow-suc 2 n, lt_of_bits n (w / 2) (λ i l t. h (suc i) (omega arith) (along (sym (bit_suc w i)) t)))

-- ---- the word of a set

bit_only : (b : Bool) (n i : ℕ) → bit (only b (2 ^ n)) i ≡ (b && eqb i n)
unfolding only
bit_only true n i = bit_pow n i
bit_only false n i = bit_zero i

pub word_next : (n : ℕ) (p : ℕ → Bool) → word (n + 1) p ≡ bit_or (word n p) (only (p n) (2 ^ n))
unfolding word
word_next n p = rw add-one

-- below suc n and in p: below n and in p, or n, which is in p
grown : (n : ℕ) (p : ℕ → Bool) (i : ℕ) → ((ltb i n && p i) || (p n && eqb i n)) ≡ (ltb i (suc n) && p i)
grown n p i =
    same ((ltb i n && p i) || (p n && eqb i n)) (ltb i (suc n) && p i)
    (λ h. ⊎_elim
    (λ a. both (ltb i (suc n)) (p i) (lt→ltb i (suc n) (omega (arith, ltb→lt i n (fst (ltb i n) (p i) a)))) (snd (ltb i n) (p i) a))
    (λ a. let e : i ≡ n = eqb→eq i n (snd (p n) (eqb i n) a) in
    both (ltb i (suc n)) (p i) (lt→ltb i (suc n) (omega arith)) (rw e (fst (p n) (eqb i n) a)))
    (or_cases (ltb i n && p i) (p n && eqb i n) h))
    (λ h. let t : T (p i) = snd (ltb i (suc n)) (p i) h in
    ⊎_elim
    (λ (e : i ≡ n). orr (ltb i n && p i) (p n && eqb i n) (both (p n) (eqb i n) (rw e at t) (eqb_of i n e)))
    (λ l. orl (ltb i n && p i) (p n && eqb i n) (both (ltb i n) (p i) (lt→ltb i n l) t))
    (below (ltb→lt i (suc n) (fst (ltb i (suc n)) (p i) h))))

pub bit_word : (n : ℕ) (p : ℕ → Bool) (i : ℕ) → bit (word n p) i ≡ (ltb i n && p i)
unfolding word
bit_word zero p i = bit_zero i ∙ sym (is_false (ltb i 0 && p i) (λ h. not-suc-le-zero (ltb→lt i 0 (fst (ltb i 0) (p i) h))))
bit_word (suc n) p i =
    bit_or_lem (word n p) (only (p n) (2 ^ n)) i ∙ ap₂ ◌||◌ (bit_word n p i) (bit_only (p n) n i) ∙ grown n p i

pub word_lt : (n : ℕ) (p : ℕ → Bool) → word n p < 2 ^ n
word_lt n p =
    lt_of_bits n (word n p) (λ i h t. omega (arith, ltb→lt i n (fst (ltb i n) (p i) (along (bit_word n p i) t))))

-- equal sets, equal words
pub word_eq : (n : ℕ) (p q : ℕ → Bool) → ((i : ℕ) → i < n → p i ≡ q i) → word n p ≡ word n q
unfolding word
word_eq zero p q h = refl
word_eq (suc n) p q h =
    ap₂ (λ (a : ℕ) (b : Bool). bit_or a (only b (2 ^ n))) (word_eq n p q (λ i l. h i (omega arith))) (h n (omega arith))

-- a word that a loop fills by `w | (1u64 << i)`: with i, or without it
pub word_in : (i : ℕ) (p : ℕ → Bool) (w : ℕ) → i < 64 → w ≡ word i p → T (p i) → bit_or w (1 * 2 ^ i % 2 ^ 64) ≡ word (i + 1) p
word_in i p w h e t =
    ap₂ bit_or e (one_shl i h ∙ sym (only_true (p i) (2 ^ i) (is_true (p i) t))) ∙ sym (word_next i p)

pub word_out : (i : ℕ) (p : ℕ → Bool) (w : ℕ) → w ≡ word i p → (T (p i) → ⊥) → w ≡ word (i + 1) p
word_out i p w e t =
    e ∙ sym (word_next i p ∙ ap (bit_or (word i p)) (only_false (p i) (2 ^ i) (is_false (p i) t)) ∙ or_zero_r (word i p))
