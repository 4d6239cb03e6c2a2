-- Bytes that a test doesn't mark: they are one part of a text.
--
--   clear p w            p marks no byte of w
--   spaced xs            a space and a number, for each of xs
use mathlib.Core.Path.{◌≡◌, refl, ap, ap₂, ◌∙◌}
use mathlib.Core.Bool.{Bool, true, false, not, ◌&&◌, ◌||◌}
use mathlib.Core.List.{List, [], ◌∷◌, ◌++◌}
use Prim.Native.Nat.{ℕ, suc, ◌+◌, ◌<◌}
use native.Mathlib.Omega.{arith}
use lib.Dec.{T, eqb}
use lib.ListN.{length}
use borrow.Author.Tests.{ne_eqb, not-true}
use Rattle.numbers.specs.Lists.{at, each}
use Rattle.numbers.proofs.Lists.{each_eq, each_join}
use Rattle.numbers.proofs.Truth.{both, fst, snd, is_true, of_true}
use Rattle.rules.specs.Text.{zero_byte, space, decimal}
use Rattle.rules.specs.Text as text
use Rattle.decimal.specs.Plain.{IsDigit, Digits, Plain, none, some}
use Rattle.decimal.proofs.Decimal.{decimal_plain}
use Rattle.grammar.specs.TableText.{is_newline, is_hash, is_blank, until}
use Rattle.text_reader.proofs.Parts.{until_past}

unfoldable pub clear : (ℕ → Bool) → List ℕ → Bool
clear p [] = true
clear p (b ∷ w) = not (p b) && clear p w

-- past what is clear
pub until_clear : (p : ℕ → Bool) (w rest : List ℕ) → T (clear p w) → until p (w ++ rest) ≡ length w + until p rest
unfolding clear
until_clear p [] rest h = omega arith
until_clear p (b ∷ w) rest h =
    let e : p b ≡ false = not-true (p b) (is_true (not (p b)) (fst (not (p b)) (clear p w) h)) in
    until_past p b (w ++ rest) e ∙ omega (arith, until_clear p w rest (snd (not (p b)) (clear p w) h))

pub clear_join : (p : ℕ → Bool) (v w : List ℕ) → T (clear p v) → T (clear p w) → T (clear p (v ++ w))
unfolding clear
clear_join p [] w g h = h
clear_join p (b ∷ v) w g h =
    both (not (p b)) (clear p (v ++ w)) (fst (not (p b)) (clear p v) g) (clear_join p v w (snd (not (p b)) (clear p v) g) h)

-- ---- a test that marks neither digits nor spaces

pub record Skips (p : ℕ → Bool) : Type 0 where
  pub digit : (b : ℕ) → IsDigit b → p b ≡ false

clear_digits : (p : ℕ → Bool) → Skips p → (ds : List ℕ) → Digits ds → T (clear p ds)
unfolding clear Digits
clear_digits p s [] h = tt
clear_digits p s (d ∷ ds) h =
    both (not (p d)) (clear p ds) (of_true (ap not (s.digit d h.0))) (clear_digits p s ds h.1)

plain_digits : {ds : List ℕ} → Plain ds → Digits ds
unfolding Digits
plain_digits none = ((omega arith, omega arith), tt)
plain_digits (some d ds h l m) = (h, m)

pub decimal_digits : (n : ℕ) → Digits (decimal n)
decimal_digits n = plain_digits (decimal_plain n)

plain_some : {ds : List ℕ} → Plain ds → 0 < length ds
plain_some none = omega arith
plain_some (some d ds h l m) = omega arith

pub decimal_some : (n : ℕ) → 0 < length (decimal n)
decimal_some n = plain_some (decimal_plain n)

pub decimal_clear : (p : ℕ → Bool) → Skips p → (n : ℕ) → T (clear p (decimal n))
decimal_clear p s n = clear_digits p s (decimal n) (decimal_digits n)

other : (b c : ℕ) → IsDigit b → (c < zero_byte) → eqb b c ≡ false
other b c h l = ne_eqb b c (λ e. let z : ⊥ = omega (arith, h.0, e, l) in z)

pub newline_skips : Skips is_newline
newline_skips = record { digit = λ b h. other b 0x0A h (omega arith) }

pub hash_skips : Skips is_hash
hash_skips = record { digit = λ b h. other b 0x23 h (omega arith) }

pub blank_skips : Skips is_blank
blank_skips = record {
  digit = λ b h. ap₂ ◌||◌ (ap₂ ◌||◌ (other b 0x20 h (omega arith)) (other b 0x09 h (omega arith))) (other b 0x0D h (omega arith));
}

-- ---- numbers with spaces before them

abbrev pub spaced : List ℕ → List ℕ
spaced xs = text.fields xs

pub spaced_none : spaced [] ≡ []
unfolding each
spaced_none = refl

pub spaced_next : (x : ℕ) (xs : List ℕ) → spaced (x ∷ xs) ≡ space ∷ (decimal x ++ spaced xs)
unfolding each
spaced_next x xs =
    let f : ℕ → List ℕ = λ k. space ∷ decimal (at (x ∷ xs) k) in
    let e : suc (length xs) ≡ 1 + length xs = omega arith in
    ap (λ (m : ℕ). each m f) e ∙ each_join 1 (length xs) f
    ∙ ap (λ (r : List ℕ). space ∷ (decimal x ++ r))
    (each_eq (length xs) (λ j. f (1 + j)) (λ j. space ∷ decimal (at xs j))
    (λ j l. let g : 1 + j ≡ suc j = omega arith in ap (λ (k : ℕ). space ∷ decimal (at (x ∷ xs) k)) g))

spaced_clear : (p : ℕ → Bool) → Skips p → p space ≡ false → (xs : List ℕ) → T (clear p (spaced xs))
unfolding clear
spaced_clear p s e [] = rw spaced_none tt
spaced_clear p s e (x ∷ xs) =
    rw (spaced_next x xs)
    (both (not (p space)) (clear p (decimal x ++ spaced xs)) (of_true (ap not e))
    (clear_join p (decimal x) (spaced xs) (decimal_clear p s x) (spaced_clear p s e xs)))

-- a word, and numbers
pub body_clear : (p : ℕ → Bool) → Skips p → p space ≡ false → (w xs : List ℕ) → T (clear p w) → T (clear p (w ++ spaced xs))
body_clear p s e w xs c = clear_join p w (spaced xs) c (spaced_clear p s e xs)
