-- The segments that all rows of a set use, as a word.
use mathlib.Core.Path.{◌≡◌, refl, sym, ap, ap₂, ◌∙◌}
use mathlib.Core.Bool.{Bool, true, false, not, ◌&&◌, ◌||◌, and-true}
use mathlib.Core.List.{List}
use Prim.Native.Nat.{ℕ, suc, ◌+◌, ◌/◌, ◌%◌, ◌^◌, ◌<◌}
use native.Mathlib.Numerals.{add-one}
use native.Mathlib.Omega.{arith}
use lib.Bits.{bit_and}
use borrow.Author.Tests.{ne_eqb}
use lib.Dec.{eqb, leb, ltb, le→leb, lt→ltb}
use Rattle.numbers.specs.Finite.{every}
use Rattle.numbers.specs.Lists.{at}
use Rattle.numbers.specs.Word.{bit, word, Stretch}
use Rattle.numbers.proofs.Truth.{same, along, is_true}
use Rattle.numbers.proofs.Finite.{every_of, every_at}
use Rattle.numbers.proofs.Word.{bit_and_lem, bit_word, bit_ext, word_eq, lt_of_bits, inside}
use Rattle.rules.specs.Bus.{Table, uses, common}
use Rattle.table.specs.Columns.{ByRow}
use Rattle.ring.specs.Route.{row_segments}

-- ---- one row more

-- the segments that the first n rows leave
abbrev pub left : (M n : ℕ) (p : ℕ → ℕ → Bool) → ℕ
left M n p = word M (λ s. every n (λ i. p i s))

pub left_start : {M w : ℕ} (p : ℕ → ℕ → Bool) → Stretch 0 M w → w ≡ left M 0 p
unfolding every
left_start {M} {w} p S =
    bit_ext _ _
    (λ s.
    S.bits s ∙ ap (λ (c : Bool). c && ltb s M) (is_true (leb 0 s) (le→leb 0 s (omega arith)))
    ∙ sym (and-true (ltb s M)) ∙ sym (bit_word M (λ s. true) s))

every_next : (n : ℕ) (p : ℕ → Bool) → every (n + 1) p ≡ (every n p && p n)
unfolding every
every_next n p = rw add-one

and_assoc : (a b c : Bool) → ((a && b) && c) ≡ (a && (b && c))
and_assoc true b c = refl
and_assoc false b c = refl

-- a row of the set takes away what it doesn't use
pub left_kept : (M n : ℕ) {v : ℕ} (p : ℕ → ℕ → Bool) (w : ℕ) → v ≡ left M n p → ((s : ℕ) → p n s ≡ bit w s) → bit_and v w ≡ left M (n + 1) p
left_kept M n {v} p w e h =
    bit_ext _ _
    (λ s.
    bit_and_lem v w s ∙ ap₂ ◌&&◌ (ap (λ (x : ℕ). bit x s) e ∙ bit_word M (λ s. every n (λ i. p i s)) s) (sym (h s))
    ∙ and_assoc (ltb s M) _ (p n s) ∙ ap (λ (c : Bool). ltb s M && c) (sym (every_next n (λ i. p i s)))
    ∙ sym (bit_word M (λ s. every (n + 1) (λ i. p i s)) s))

-- another row takes nothing away
pub left_same : (M n : ℕ) {v : ℕ} (p : ℕ → ℕ → Bool) → v ≡ left M n p → ((s : ℕ) → p n s ≡ true) → v ≡ left M (n + 1) p
left_same M n p e h =
    e
    ∙ word_eq M _ _
    (λ s l. sym (every_next n (λ i. p i s) ∙ ap (λ (c : Bool). every n (λ i. p i s) && c) (h s) ∙ and-true (every n (λ i. p i s))))

-- `(set >> i) % 2 == 1`, as the loop tests it
module _ (p : Bool) (w i : ℕ) where
  pub in_set : w / 2 ^ i % 2 ≡ 1 → (not (bit w i) || p) ≡ p
  unfolding bit
  in_set e = ap (λ (x : ℕ). not (eqb x 1) || p) e

  pub not_in_set : (w / 2 ^ i % 2 ≡ 1 → ⊥) → (not (bit w i) || p) ≡ true
  unfolding bit
  not_in_set h = ap (λ (c : Bool). not c || p) (ne_eqb (w / 2 ^ i % 2) 1 h)

-- a word of no more bits than a ring has segments
pub stretch_fits : {M w : ℕ} → Stretch 0 M w → w < 2 ^ M
stretch_fits {M} {w} S = lt_of_bits M w (λ i l t. omega (arith, (inside 0 M i (along (S.bits i) t)).1))

-- ---- the words of the rows' segments

every_eq : (n : ℕ) (p q : ℕ → Bool) → ((i : ℕ) → i < n → p i ≡ q i) → every n p ≡ every n q
every_eq n p q h =
    same (every n p) (every n q) (λ a. every_of n q (λ i l. along (h i l) (every_at n p a i l)))
    (λ a. every_of n p (λ i l. along (sym (h i l)) (every_at n q a i l)))

pub common_is : (t : Table) (D : ℕ → Bool) (ws : List ℕ)
    → ByRow t.rows (λ i. row_segments t.elements (t.way i) (t.first i) (t.second i)) ws
    → left t.elements t.rows (λ i s. not (D i) || bit (at ws i) s) ≡ common t D
unfolding common row_segments uses
common_is t D ws B =
    word_eq t.elements _ _
    (λ s l.
    every_eq t.rows _ _
    (λ i m.
    ap (λ (c : Bool). not (D i) || c)
    (ap (λ (w : ℕ). bit w s) (B.row i m) ∙ bit_word t.elements _ s
    ∙ ap (λ (c : Bool). c && uses t i (suc s)) (is_true (ltb s t.elements) (lt→ltb s t.elements l)))))
