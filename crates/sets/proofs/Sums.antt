-- Sums over the rows of a set, by its word: a row at a time is taken out.
--
--   without w i    the word w with bit i toggled: without row i, where it was in
use mathlib.Core.Path.{◌≡◌, refl, sym, ap, ap₂, ◌∙◌}
use mathlib.Core.Logic.{◌≢◌}
use mathlib.Core.Bool.{Bool, true, false, not, cond}
use Prim.Native.Nat.{ℕ, zero, suc, ◌+◌, ◌*◌, ◌/◌, ◌%◌, ◌^◌, ◌≤◌, ◌<◌}
use native.Mathlib.Nat.{pow-suc}
use native.Mathlib.Omega.{arith}
use lib.Bits.{bit_xor}
use lib.Count.{count_trailing_zeros, under}
use lib.Dec.{T, eqb, eqb→eq}
use borrow.Author.Tests.{eq-eqb}
use Rattle.numbers.specs.Finite.{only, sum_in}
use Rattle.numbers.specs.Word.{bit}
use Rattle.numbers.proofs.Truth.{is_false, is_true, eqb_of}
use Rattle.numbers.proofs.Finite.{sum_eq, sum_add, sum_bump, sum_zero, only_true, only_false}
use Rattle.numbers.proofs.Word.{bit_zero, bit_low, bit_suc, bit_xor_lem, bit_pow, one_shl}

-- ---- the lowest row

pub lowest_bit : (d w : ℕ) → w < 2 ^ d → w ≢ 0 → (count_trailing_zeros d w < d) × (bit w (count_trailing_zeros d w) ≡ true)
unfolding count_trailing_zeros
lowest_bit zero w l h = absurd (h (omega arith))
lowest_bit (suc d) w l h = go (w % 2) refl (λ (k : w / 2 ≢ 0). lowest_bit d (w / 2) (omega (arith, pow-suc 2 d)) k)
  where
    go : (r : ℕ) → w % 2 ≡ r
        → (w / 2 ≢ 0 → (count_trailing_zeros d (w / 2) < d) × (bit (w / 2) (count_trailing_zeros d (w / 2)) ≡ true))
        → (under r (count_trailing_zeros d (w / 2)) < suc d) × (bit w (under r (count_trailing_zeros d (w / 2))) ≡ true)
    go zero e ih =
        let i = ih (λ k. h (omega arith)) in
        (omega (arith, i.0), bit_suc w _ ∙ i.1)
    go (suc r) e ih = (omega arith, bit_low w ∙ eq-eqb (w % 2) 1 (omega arith))

-- ---- without a row

abbrev pub without : ℕ → ℕ → ℕ
without w i = bit_xor w (1 * 2 ^ i % 2 ^ 64)

module _ (w i : ℕ) (small : i < 64) where
  toggled : (j : ℕ) → bit (without w i) j ≡ cond (bit w j) (not (eqb j i)) (eqb j i)
  toggled j =
      bit_xor_lem w (1 * 2 ^ i % 2 ^ 64) j
      ∙ ap (λ (b : Bool). cond (bit w j) (not b) b) (ap (λ (v : ℕ). bit v j) (one_shl i small) ∙ bit_pow i j)

  kept : (b : Bool) → cond b (not false) false ≡ b
  kept true = refl
  kept false = refl

  pub other : (j : ℕ) → j ≢ i → bit (without w i) j ≡ bit w j
  other j d =
      toggled j
      ∙ ap (λ (b : Bool). cond (bit w j) (not b) b) (is_false (eqb j i) (λ t. d (eqb→eq j i t))) ∙ kept (bit w j)

  module _ (g : ℕ → ℕ) (n : ℕ) where
    -- row i is not among the first n
    pub sum_past : n ≤ i → sum_in n (bit (without w i)) g ≡ sum_in n (bit w) g
    sum_past l = sum_eq n _ _ (λ j m. ap (λ (b : Bool). only b (g j)) (other j (λ e. omega arith)))

    -- it is, and it was in
    pub sum_without : i < n → bit w i ≡ true → sum_in n (bit w) g ≡ sum_in n (bit (without w i)) g + g i
    sum_without l h =
        sum_bump n (λ j. only (bit (without w i) j) (g j)) (λ j. only (bit w j) (g j)) i (g i) l
        (λ j m d. ap (λ (b : Bool). only b (g j)) (sym (other j d)))
        (omega (
          arith,
          only_true (bit w i) (g i) h,
          only_false (bit (without w i) i) (g i)
              (toggled i ∙ ap₂ (λ (a b : Bool). cond a (not b) b) h (is_true (eqb i i) (eqb_of i i refl))),
        ))

-- a word with no row
pub sum_none : (n w : ℕ) (g : ℕ → ℕ) → w ≡ 0 → sum_in n (bit w) g ≡ 0
sum_none n w g e =
    sum_zero n (λ i. only (bit w i) (g i)) (λ i l. only_false (bit w i) (g i) (ap (λ (v : ℕ). bit v i) e ∙ bit_zero i))

parted : (a b : Bool) (x : ℕ) → (T b → T a) → only a x ≡ only (cond a (not b) b) x + only b x
unfolding only
parted true true x k = omega arith
parted true false x k = omega arith
parted false true x k = absurd (k tt)
parted false false x k = omega arith

-- a part of a set, and what is left of it
pub sum_part : (n w s : ℕ) (g : ℕ → ℕ) → ((i : ℕ) → T (bit s i) → T (bit w i))
    → sum_in n (bit w) g ≡ sum_in n (bit (bit_xor w s)) g + sum_in n (bit s) g
sum_part n w s g h =
    sum_eq n (λ i. only (bit w i) (g i)) (λ i. only (bit (bit_xor w s) i) (g i) + only (bit s i) (g i))
    (λ i l. parted (bit w i) (bit s i) (g i) (h i) ∙ ap (λ (b : Bool). only b (g i) + only (bit s i) (g i)) (sym (bit_xor_lem w s i)))
    ∙ sum_add n (λ i. only (bit (bit_xor w s) i) (g i)) (λ i. only (bit s i) (g i))
