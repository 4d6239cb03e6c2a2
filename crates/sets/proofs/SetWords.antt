-- The answer of `list_sets`: the list is as long as the count says, and only one count and one array of words fit.
use mathlib.Core.Path.{◌≡◌, sym, ap, ◌∙◌}
use mathlib.Core.Logic.{⊎_elim}
use mathlib.Core.List.{List}
use Prim.Native.Nat.{ℕ, ◌≤◌, ◌<◌}
use native.Mathlib.Omega.{arith}
use lib.ListN.{length, take, length-take}
use lib.Seq.{get_or-take, ext_get_or}
use Rattle.numbers.specs.Lists.{at}
use Rattle.numbers.proofs.Truth.{le_or_lt}
use Rattle.rules.proofs.Sets.{sets_only}
use Rattle.sets.specs.Sets.{OnLine, SetWords}

pub set_words_length : {n : ℕ} {first second : ℕ → ℕ} {top k : ℕ} {words : List ℕ} → OnLine n first second top
    → SetWords n first second k words → length (take k words) ≡ k
set_words_length {k = k} {words = words} O L = omega (arith, length-take k words, O.few, L.few, L.size)

pub set_words_only : {n : ℕ} {first second : ℕ → ℕ} {top k l : ℕ} {words others : List ℕ} → OnLine n first second top
    → SetWords n first second k words → SetWords n first second l others → (k ≡ l) × (words ≡ others)
set_words_only {n} {first} {second} {k = k} {l = l} {words = words} {others = others} O A B =
    let e : take k words ≡ take l others = sets_only O.some A.sets B.sets in
    let q : k ≡ l = omega (arith, set_words_length O A, set_words_length O B, ap length e) in (
      q,
      ext_get_or 0 words others (A.size ∙ sym B.size)
          (λ i h.
          ⊎_elim
          (λ (m : k ≤ i). A.rest i m ∙ sym (B.rest i (omega arith)))
          (λ (m : i < k).
          sym (get_or-take k words i 0 m) ∙ ap (λ (ws : List ℕ). at ws i) e ∙ get_or-take l others i 0 (omega arith))
          (le_or_lt k i)),
    )
