-- #102: the word of the segments that two rows share shows each of them, and is 0 exactly if they don't overlap.
use mathlib.Core.Path.{◌≡◌, sym, ap, ◌∙◌}
use mathlib.Core.Logic.{◌↔◌}
use mathlib.Core.Bool.{Bool, false, ◌&&◌}
use Prim.Native.Nat.{ℕ, suc}
use lib.Dec.{ltb, ltb→lt, lt→ltb}
use Rattle.numbers.specs.Finite.{any}
use Rattle.numbers.specs.Word.{bit, word}
use Rattle.numbers.proofs.Truth.{both, fst, snd, along, is_false, of_false}
use Rattle.numbers.proofs.Finite.{any_of, any_none}
use Rattle.numbers.proofs.Word.{bit_word, bit_zero, bit_ext}
use Rattle.rules.specs.Bus.{shares, overlap, shared}
use Rattle.rules.specs.Shared.{ShowsSegments, ZeroIfApart}

-- a word is 0 exactly if no number is in its set
word_none : (n : ℕ) (p : ℕ → Bool) → (word n p ≡ 0) ↔ (any n p ≡ false)
word_none n p = (
  λ e.
      any_none n p
      (λ k l h. of_false (bit_zero k) (along (sym (bit_word n p k) ∙ ap (λ (w : ℕ). bit w k) e) (both (ltb k n) (p k) (lt→ltb k n l) h))),
  λ e.
      bit_ext (word n p) 0
      (λ k.
      bit_word n p k
      ∙ is_false (ltb k n && p k) (λ h. of_false e (any_of n p k (ltb→lt k n (fst (ltb k n) (p k) h)) (snd (ltb k n) (p k) h)))
      ∙ sym (bit_zero k)),
)

pub shows_segments : ShowsSegments
unfolding shared
shows_segments t i j s = bit_word t.elements (λ k. shares t i j (suc k)) s

pub zero_if_apart : ZeroIfApart
unfolding shared overlap
zero_if_apart t i j = word_none t.elements (λ k. shares t i j (suc k))
