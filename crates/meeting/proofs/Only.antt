-- Only one answer fits two rows of a file's table.
use mathlib.Core.Path.{◌≡◌, sym, ◌∙◌}
use mathlib.Core.List.{List}
use Prim.Native.Nat.{ℕ}
use native.Mathlib.Decide.{ℕ_discrete}
use Rattle.rules.specs.Refusals.{shared_checks}
use Rattle.rules.specs.Calls.{Met}
use Rattle.rules.proofs.Answers.{answers_only}

pub met_only : (f : List ℕ) (i j m n p q v w : ℕ) → Met f i j m p v → Met f i j n q w → (m ≡ n) × (p ≡ q) × (v ≡ w)
met_only f i j m n p q v w A B = (same.0, same.1, go (ℕ_discrete m 0))
  where
    same : (m ≡ n) × (p ≡ q)
    same = answers_only (shared_checks f i j) m n p q A.answers B.answers

    go : Dec (m ≡ 0) → v ≡ w
    go (yes z) = A.done z ∙ sym (B.done (sym same.0 ∙ z))
    go (no h) = A.refused h ∙ sym (B.refused (λ z. h (same.0 ∙ z)))
