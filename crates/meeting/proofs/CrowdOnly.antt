-- Only one answer fits a set of a file's table.
use mathlib.Core.Path.{◌≡◌, sym, ap, ◌∙◌}
use mathlib.Core.List.{List, [], ◌∷◌}
use Prim.Native.Nat.{ℕ}
use native.Mathlib.Decide.{ℕ_discrete}
use native.Mathlib.Omega.{arith}
use Rattle.numbers.specs.Lists.{at}
use Rattle.rules.specs.Bus.{common}
use Rattle.rules.specs.TableFile.{file_table}
use Rattle.rules.specs.Line.{set_at}
use Rattle.rules.specs.Refusals.{Check, Answers, given_checks, line_checks, set_checks, no_set}
use Rattle.rules.specs.Calls.{Crowded}
use Rattle.rules.proofs.Answers.{None, Numbered, none_of, none_left, numbered_join, answers_only}
use Rattle.rules.proofs.Sets.{sets_only}
use Rattle.outline.specs.Outlined.{outline_checks}
use Rattle.pasted.proofs.AsGiven.{given_passed}
use Rattle.outline.proofs.Outlined.{outline_numbered}

module _ (f : List ℕ) (k : ℕ) where
  abbrev past : List Check
  past = no_set (file_table f) k ∷ []

  -- a set that is answered is one of a table as it may be given
  given_none : (p : ℕ) → Answers (set_checks f k) 0 p → None (given_checks f)
  unfolding set_checks Numbered
  given_none p a =
      none_left (given_checks f) (line_checks (file_table f))
      (none_left (outline_checks f) past
      (none_of (set_checks f k) p (numbered_join (outline_checks f) past (outline_numbered f) ((λ e. omega arith), tt)) a))

  pub crowded_only : (m n p q v w x y : ℕ) → Crowded f k m p v x → Crowded f k n q w y → (m ≡ n) × (p ≡ q) × (v ≡ w) × (x ≡ y)
  crowded_only m n p q v w x y A B = (same.0, same.1, (go (ℕ_discrete m 0)).0, (go (ℕ_discrete m 0)).1)
    where
      same : (m ≡ n) × (p ≡ q)
      same = answers_only (set_checks f k) m n p q A.answers B.answers

      go : Dec (m ≡ 0) → (v ≡ w) × (x ≡ y)
      go (yes z) =
          let a = A.done z in
          let b = B.done (sym same.0 ∙ z) in
          let none = given_none p (rw z at A.answers) in
          let e = sets_only (given_passed f none).sound.rows_low a.1 b.1 in (
            a.3 ∙ ap (λ (ws : List ℕ). at ws k) e ∙ sym b.3,
            a.4 ∙ ap (λ (ws : List ℕ). common (file_table f) (set_at ws k)) e ∙ sym b.4,
          )
      go (no h) =
          let a = A.refused h in
          let b = B.refused (λ z. h (same.0 ∙ z)) in
          (a.0 ∙ sym b.0, a.1 ∙ sym b.1)
