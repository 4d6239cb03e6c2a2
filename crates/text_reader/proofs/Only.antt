-- Only one answer fits a text.
use mathlib.Core.Path.{◌≡◌, sym, ◌∙◌}
use mathlib.Core.Logic.{⊎_elim}
use mathlib.Core.List.{List}
use Prim.Native.Nat.{ℕ}
use Rattle.rules.proofs.Calls.{call_only}
use Rattle.grammar.specs.TableText.{TextRead}

pub text_read_only : (t was now now' : List ℕ) (m n p q : ℕ) (k k' : List ℕ) (v v' M M' r r' : ℕ)
    → TextRead t was now m p k v M r → TextRead t was now' n q k' v' M' r'
    → (m ≡ n) × (p ≡ q) × (k ≡ k') × (v ≡ v') × (M ≡ M') × (r ≡ r') × (now ≡ now')
text_read_only t was now now' m n p q k k' v v' M M' r r' c d =
    let z = call_only c d in
    let s : (k ≡ k') × (v ≡ v') × (M ≡ M') × (r ≡ r') × (now ≡ now') =
    ⊎_elim
    (λ w. (
      w.0.0 ∙ sym w.1.0,
      w.0.1 ∙ sym w.1.1,
      w.0.2 ∙ sym w.1.2,
      w.0.3 ∙ sym w.1.3,
      w.0.4 ∙ sym w.1.4,
    ))
    (λ w. (
      w.0.0 ∙ sym w.1.0,
      w.0.1 ∙ sym w.1.1,
      w.0.2 ∙ sym w.1.2,
      w.0.3 ∙ sym w.1.3,
      w.0.4 ∙ sym w.1.4,
    ))
    z.2 in
    (z.0, z.1, s.0, s.1, s.2, s.3, s.4)
