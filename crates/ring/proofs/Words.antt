-- #102: the word of a route's segments, and that two rows share the segments that are in both words.
use mathlib.Core.Path.{◌≡◌, refl, sym, ap, ap₂, ◌∙◌}
use mathlib.Core.Logic.{⊎_elim, ◌≢◌}
use mathlib.Core.Bool.{Bool, true, false, ◌&&◌, ◌||◌, and-true, and-false}
use Prim.Native.Nat.{ℕ, suc, ◌+◌, ◌/◌, ◌%◌, ◌^◌, ◌≤◌, ◌<◌}
use native.Mathlib.Numerals.{one-add}
use native.Mathlib.Omega.{arith}
use lib.Bits.{bit_or, bit_and}
use lib.Dec.{eqb, eqb→eq, leb, ltb, le→leb, lt→ltb, ltb→lt}
use lib.Pow.{shr-shr}
use Rattle.numbers.specs.Word.{bit, Stretch, word}
use Rattle.numbers.proofs.Truth.{is_true, is_false, eqb_of, le_or_lt}
use Rattle.numbers.proofs.Word.{bit_zero, bit_or_lem, bit_and_lem, bit_word, bit_ext, word_eq, word_lt}
use Rattle.rules.specs.Bus.{Table, clockwise, uses, route_uses, shared}
use Rattle.ring.specs.Route.{Element, Shows, segments, row_segments}
use Rattle.ring.proofs.Mirror.{clockwise_uses, counterclockwise_uses}

-- `(w >> n)`: bit k is bit n + k
bit_shifted : (w n k : ℕ) → bit (w / 2 ^ n) k ≡ bit w (n + k)
unfolding bit
bit_shifted w n k = ap (λ (x : ℕ). eqb (x % 2) 1) (shr-shr w n k)

-- a route's segments brought from bits s and M + s to bit s − 1, and cut off at bit M
module _ (M a b : ℕ) {w v : ℕ} (S : Shows M w (route_uses M a b)) (mask : Stretch 0 M v) where
  abbrev used : ℕ → Bool
  used s = route_uses M a b (suc s)

  abbrev folded : ℕ
  folded = bit_or w (w / 2 ^ M) / 2 ^ 1

  past : (k : ℕ) → M ≤ k → bit (bit_and folded v) k ≡ bit (word M used) k
  past k l =
      let none : ltb k M ≡ false = is_false (ltb k M) (λ h. omega (arith, ltb→lt k M h)) in
      let out : bit v k ≡ false = mask.bits k ∙ ap (λ (c : Bool). leb 0 k && c) none ∙ and-false (leb 0 k) in
      bit_and_lem folded v k ∙ ap (λ (c : Bool). bit folded k && c) out ∙ and-false (bit folded k)
      ∙ sym (bit_word M used k ∙ ap (λ (c : Bool). c && used k) none)

  shown : (k : ℕ) → k < M → bit folded k ≡ used k
  shown k l =
      bit_shifted (bit_or w (w / 2 ^ M)) 1 k ∙ ap (bit (bit_or w (w / 2 ^ M))) (one-add k) ∙ bit_or_lem w (w / 2 ^ M) (suc k)
      ∙ ap (λ (c : Bool). bit w (suc k) || c) (bit_shifted w M (suc k))
      ∙ S.element (suc k) (record { low = omega arith; high = omega arith })

  within : (k : ℕ) → k < M → bit (bit_and folded v) k ≡ bit (word M used) k
  within k l =
      let low : ltb k M ≡ true = is_true (ltb k M) (lt→ltb k M l) in
      let kept : bit v k ≡ true =
      mask.bits k ∙ ap₂ ◌&&◌ (is_true (leb 0 k) (le→leb 0 k (omega arith))) low in
      bit_and_lem folded v k ∙ ap₂ ◌&&◌ (shown k l) kept ∙ and-true (used k) ∙ sym (bit_word M used k ∙ ap (λ (c : Bool). c && used k) low)

  pub segments_word : bit_and folded v ≡ segments M a b
  unfolding segments
  segments_word = bit_ext _ _ (λ k. ⊎_elim (past k) (within k) (le_or_lt M k))

pub segments_fit : (M a b : ℕ) → segments M a b < 2 ^ M
unfolding segments
segments_fit M a b = word_lt M (λ s. route_uses M a b (suc s))

-- ---- rows of either ring

-- a row's segments are those of a route one way or the other
pub row_clockwise : {d : ℕ} (M a b : ℕ) → d ≡ clockwise → segments M a b ≡ row_segments M d a b
unfolding segments row_segments
row_clockwise M a b e = word_eq M _ _ (λ s l. sym (clockwise_uses M a b (suc s) e))

pub row_counterclockwise : {M d a b : ℕ} → d ≢ clockwise → Element M a → Element M b → segments M b a ≡ row_segments M d a b
unfolding segments row_segments
row_counterclockwise {M} n x y =
    word_eq M _ _ (λ s l. sym (counterclockwise_uses n x y (record { low = omega arith; high = omega (arith, l) })))

-- ---- two rows

abbrev row_word : Table → ℕ → ℕ
row_word t i = row_segments t.elements (t.way i) (t.first i) (t.second i)

pub both_segments : (t : Table) (i j : ℕ) → t.way i ≡ t.way j → bit_and (row_word t i) (row_word t j) ≡ shared t i j
unfolding row_segments shared uses
both_segments t i j e =
    bit_ext _ _
    (λ k.
    bit_and_lem _ _ k ∙ ap₂ ◌&&◌ (bit_word t.elements _ k) (bit_word t.elements _ k)
    ∙ shared_bit (ltb k t.elements) (eqb (t.way i) (t.way j)) _ _ (is_true _ (eqb_of _ _ e)) ∙ sym (bit_word t.elements _ k))
  where
    shared_bit : (l same p q : Bool) → same ≡ true → ((l && p) && (l && q)) ≡ (l && (same && (p && q)))
    shared_bit true same p q z = rw z
    shared_bit false same p q z = refl

-- rows of different rings share none
pub no_segments : (t : Table) (i j : ℕ) → t.way i ≢ t.way j → 0 ≡ shared t i j
unfolding shared
no_segments t i j n =
    let none : eqb (t.way i) (t.way j) ≡ false = is_false _ (λ h. n (eqb→eq _ _ h)) in
    bit_ext 0 _ (λ k. bit_zero k ∙ sym (bit_word t.elements _ k ∙ rw none (and-false (ltb k t.elements))))
