-- A lent slice of which only the first l places change.
use mathlib.Core.Path.{◌≡◌, refl, sym, ap, ◌∙◌}
use mathlib.Core.Logic.{⊎_elim}
use mathlib.Core.List.{List}
use Prim.Native.Nat.{ℕ, ◌+◌, ◌-◌, ◌≤◌, ◌<◌}
use native.Mathlib.Omega.{arith}
use lib.ListN.{length, set, drop, length-set, length-drop}
use lib.Seq.{drop-set-lt, get_or-drop, ext_get_or}
use Rattle.numbers.specs.Lists.{at}
use Rattle.numbers.proofs.Truth.{le_or_lt}
use Rattle.placing.specs.Filled.{Kept}

pub kept_none : (l : ℕ) (was : List ℕ) → Kept l was was
kept_none l was = record { rest = refl; long = refl }

pub kept_trans : {l : ℕ} {a b c : List ℕ} → Kept l a b → Kept l b c → Kept l a c
kept_trans h k = record { rest = k.rest ∙ h.rest; long = k.long ∙ h.long }

pub kept_set : {l : ℕ} {was now : List ℕ} (s v : ℕ) → Kept l was now → s < l → Kept l was (set now s v)
kept_set {l} {was} {now} s v K h =
    record { rest = drop-set-lt l now s v h ∙ K.rest; long = length-set now s v ∙ K.long }

-- place by place
pub kept_of : (l : ℕ) (was now : List ℕ) → length now ≡ length was → ((s : ℕ) → l ≤ s → at now s ≡ at was s) → Kept l was now
kept_of l was now e h = record {
  rest = ext_get_or 0 (drop l now) (drop l was) (length-drop l now ∙ ap (λ (k : ℕ). k - l) e ∙ sym (length-drop l was))
      (λ i m. get_or-drop l now i 0 ∙ h (l + i) (omega arith) ∙ sym (get_or-drop l was i 0));
  long = e;
}

-- the first place is cleared, where there is one
pub kept_cleared : (l : ℕ) (was now : List ℕ) → (0 < l → now ≡ set was 0 0) → (l ≡ 0 → now ≡ was) → Kept l was now
kept_cleared l was now some none =
    ⊎_elim
    (λ (a : l ≤ 0). rw (none (omega arith)) (kept_none l was))
    (λ (a : 0 < l). rw (some a) (kept_set 0 0 (kept_none l was) a))
    (le_or_lt l 0)
