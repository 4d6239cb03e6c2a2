-- Only one answer fits the file of a live table's rows.
use mathlib.Core.Path.{◌≡◌, sym, ◌∙◌}
use mathlib.Core.Logic.{⊎_elim}
use mathlib.Core.List.{List}
use Prim.Native.Nat.{ℕ}
use Rattle.rules.specs.Live.{Live, Filed}
use Rattle.rules.proofs.Calls.{call_only}

pub file_only : (v : ℕ) (l : Live) (was now now' : List ℕ) (m n p q : ℕ) → Filed v l was now m p → Filed v l was now' n q
    → (m ≡ n) × (p ≡ q) × (now ≡ now')
file_only v l was now now' m n p q c d =
    let z = call_only c d in
    (z.0, z.1, ⊎_elim (λ w. w.0 ∙ sym w.1) (λ w. w.0 ∙ sym w.1) z.2)
