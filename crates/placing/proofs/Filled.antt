-- What the contract of `fill` gives: only one answer fits it, and the slice is the interval's words followed by what was there.
use mathlib.Core.Path.{◌≡◌, refl, sym, ap, ◌∙◌}
use mathlib.Core.List.{List, ◌++◌}
use Prim.Native.Nat.{ℕ}
use lib.ListN.{take, drop, take-append-drop}
use Rattle.rules.specs.Line.{meet}
use Rattle.rules.specs.Calls.{lent}
use Rattle.rules.proofs.Interval.{words_only}
use Rattle.placing.specs.Filled.{FilledSlots}

module _ {n : ℕ} {f g x : ℕ → ℕ} {l : ℕ} {was : List ℕ} where
  -- the words, and past them what was there
  pub filled_joined : {now : List ℕ} → FilledSlots n f g x l was now → now ≡ take l now ++ drop l was
  filled_joined {now} F = sym (take-append-drop l now) ∙ ap (λ (d : List ℕ). take l now ++ d) F.kept.rest

  pub filled_lent : {now : List ℕ} → FilledSlots n f g x l was now → now ≡ lent (take l now) was
  unfolding lent
  filled_lent {now} F = filled_joined F ∙ ap (λ (k : ℕ). take l now ++ drop k was) (sym F.words.size)

  -- only one answer fits
  pub filled_only : {one other : List ℕ} → FilledSlots n f g x l was one → FilledSlots n f g x l was other → one ≡ other
  filled_only {one} {other} F G =
      filled_joined F
      ∙ ap (λ (d : List ℕ). d ++ drop l was)
      (words_only n (meet f g) f x x l (λ i h. refl) (take l one) (take l other) F.words G.words)
      ∙ sym (filled_joined G)
