-- The sets compared: rows counted by words, and the words of the sets that the comparison fills.
use mathlib.Core.Path.{◌≡◌, refl, sym, ap, ap₂, ◌∙◌}
use mathlib.Core.Bool.{Bool, true, false, ◌&&◌, not}
use Prim.Native.Nat.{ℕ, zero, suc, ◌+◌, ◌-◌, ◌*◌, ◌/◌, ◌%◌, ◌^◌, ◌<◌}
use native.Mathlib.Decide.{dec_lt}
use native.Mathlib.Nat.{pow-suc}
use native.Mathlib.Numerals.{add-one, one-add}
use native.Mathlib.Omega.{arith}
use lib.Bits.{bit_and, bit_or}
use lib.Count.{ones, ones_step, ones-le}
use lib.Dec.{T, eqb, ltb, leb, ltb→lt}
use borrow.Author.Tests.{lt-ltb, le-ltb, ne_eqb}
use Rattle.numbers.specs.Finite.{sum, sum_in, only, count}
use Rattle.numbers.specs.Word.{bit, word}
use Rattle.numbers.proofs.Finite.{sum_eq, sum_split, sum_next, sum_zero, only_true, only_false, only_and, only_comm}
use Rattle.numbers.proofs.Truth.{and_under, along, fst, snd}
use Rattle.numbers.proofs.Word.{word_next, bit_word, bit_low, bit_suc, bit_and_lem, lt_of_bits}
use Rattle.loads.specs.Loads.{digit}
use Rattle.loads.specs.State.{Compared}

-- ---- rows counted

low_digit : (w : ℕ) → only (bit w 0) 1 ≡ w % 2
low_digit w = go (w % 2) (omega arith) (bit_low w)
  where
    go : (r : ℕ) → r < 2 → bit w 0 ≡ eqb r 1 → only (bit w 0) 1 ≡ r
    go zero l e = only_false (bit w 0) 1 e
    go (suc zero) l e = only_true (bit w 0) 1 e
    go (suc (suc r)) l e = absurd (omega arith)

pub ones_count : (d w : ℕ) → w < 2 ^ d → ones w ≡ count d (bit w)
ones_count zero w l = omega (arith, ones-le 0 w l, sum_zero 0 (λ i. only (bit w i) 1) (λ i m. absurd (omega arith)))
ones_count (suc d) w l =
    let g : ℕ → ℕ = λ i. only (bit w i) 1 in
    let ih = ones_count d (w / 2) (omega (arith, pow-suc 2 d)) in
    omega (
      arith,
      ones_step w,
      ih,
      ap (λ (k : ℕ). sum k g) (sym (one-add d)),
      sum_split 1 d g,
      sum_next 0 g,
      sum_zero 0 g (λ i m. absurd (omega arith)),
      low_digit w,
      sum_eq d (λ i. g (1 + i)) (λ i. only (bit (w / 2) i) 1) (λ i m. ap (λ (b : Bool). only b 1) (ap (bit w) (one-add i) ∙ bit_suc w i)),
    )

-- the rows of a set that are in a word
pub ones_sum : (n top w : ℕ) (D : ℕ → Bool) → ((i : ℕ) → bit w i ≡ (ltb i n && D i)) → ones (bit_and top w) ≡ sum_in n D (digit top)
ones_sum n top w D is =
    ones_count n (bit_and top w)
    (lt_of_bits n (bit_and top w) (λ i l t.
    let z : T (bit w i) = snd (bit top i) (bit w i) (along (bit_and_lem top w i) t) in
    omega (arith, ltb→lt i n (fst (ltb i n) (D i) (along (is i) z)))))
    ∙ sum_eq n _ _ (λ i l.
    ap (λ (b : Bool). only b 1) (bit_and_lem top w i ∙ ap (λ (b : Bool). bit top i && b) (is i ∙ ap (λ (b : Bool). b && D i) (lt-ltb i n l)))
    ∙ only_and (bit top i) (D i) 1 ∙ only_comm (bit top i) (D i) 1)

-- ---- the words of the sets

module _ (h : ℕ) (C F : ℕ → ℕ) where
  abbrev pub takes : ℕ → Bool
  takes v = not (eqb v 0) && ltb (h * C (v - 1)) (F (v - 1))

  abbrev pub gives : ℕ → Bool
  gives k = ltb (F k) (h * C k)

  abbrev pub lacks : ℕ → Bool
  lacks k = leb (h * C k + h) (F k)

  pub takes_next : (k : ℕ) → takes (k + 1) ≡ ltb (h * C k) (F k)
  takes_next k =
      let e : k + 1 - 1 ≡ k = omega arith in
      rw (ne_eqb (k + 1) 0 (λ (q : k + 1 ≡ 0). omega arith), e)

  pub compared_of : (K more less low : ℕ) → more ≡ word (K + 1) takes → less ≡ word K gives → low ≡ word K lacks
      → Compared K h C F more less low
  compared_of K more less low p q r = record {
    first = ap (λ (w : ℕ). bit w 0) p ∙ bit_word (K + 1) takes 0 ∙ below (ltb 0 (K + 1));
    more_is = λ k. ap (λ (w : ℕ). bit w (suc k)) p ∙ bit_word (K + 1) takes (suc k) ∙ shifted k;
    less_is = λ k. ap (λ (w : ℕ). bit w k) q ∙ bit_word K gives k;
    low_is = λ k. ap (λ (w : ℕ). bit w k) r ∙ bit_word K lacks k;
  }
    where
      below : (b : Bool) → (b && takes 0) ≡ false
      below true = refl
      below false = refl

      shifted : (k : ℕ) → (ltb (suc k) (K + 1) && takes (suc k)) ≡ (ltb k K && ltb (h * C k) (F k))
      shifted k =
          ap₂ ◌&&◌ (same_test (dec_lt k K)) (ap takes (sym (add-one k)) ∙ takes_next k)
        where
          same_test : Dec (k < K) → ltb (suc k) (K + 1) ≡ ltb k K
          same_test (yes l) = lt-ltb (suc k) (K + 1) (omega arith) ∙ sym (lt-ltb k K l)
          same_test (no l) = le-ltb (suc k) (K + 1) (omega arith) ∙ sym (le-ltb k K (omega arith))

pub word_one : (p : ℕ → Bool) → p 0 ≡ false → 0 ≡ word 1 p
unfolding word
word_one p e = rw (only_false (p 0) (2 ^ 0) e)

pub word_zero : (p : ℕ → Bool) → 0 ≡ word 0 p
unfolding word
word_zero p = refl

-- one set more
pub word_more : (k w w' : ℕ) (p : ℕ → Bool) (on : Bool) → w ≡ word k p → w' ≡ bit_or w (only on (2 ^ k)) → p k ≡ on → w' ≡ word (k + 1) p
word_more k w w' p on e r q = r ∙ ap₂ (λ (a : ℕ) (b : Bool). bit_or a (only b (2 ^ k))) e (sym q) ∙ sym (word_next k p)

pub compared_eq : (K h : ℕ) (C F C' F' : ℕ → ℕ) (more less low : ℕ) → ((k : ℕ) → k < K → C k ≡ C' k) → ((k : ℕ) → k < K → F k ≡ F' k)
    → Compared K h C F more less low → Compared K h C' F' more less low
compared_eq K h C F C' F' more less low c f S = record {
  first = S.first;
  more_is = λ k. S.more_is k
      ∙ and_under (ltb k K) _ _ (λ t. let l = ltb→lt k K t in ap₂ (λ (x y : ℕ). ltb (h * x) y) (c k l) (f k l));
  less_is = λ k. S.less_is k
      ∙ and_under (ltb k K) _ _ (λ t. let l = ltb→lt k K t in ap₂ (λ (x y : ℕ). ltb y (h * x)) (c k l) (f k l));
  low_is = λ k. S.low_is k
      ∙ and_under (ltb k K) _ _ (λ t. let l = ltb→lt k K t in ap₂ (λ (x y : ℕ). leb (h * x + h) y) (c k l) (f k l));
}
