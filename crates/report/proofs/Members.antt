-- Lines of the bits of a word that are set, and the words of an answer, 0 where it is refused.
use mathlib.Core.Path.{◌≡◌, refl, ap, subst, fun_ext}
use mathlib.Core.Bool.{Bool, cond}
use mathlib.Core.List.{List, [], ◌∷◌}
use Prim.Native.Nat.{ℕ, ◌/◌, ◌%◌, ◌^◌}
use borrow.Author.Tests.{ne_eqb}
use lib.Dec.{eqb}
use Rattle.std.specs.Prelude.{Result, Ok, Err}
use Rattle.std.specs.Result.{result_unwrap_or}
use Rattle.numbers.specs.Word.{bit}
use Rattle.rules.specs.Text.{Line, text}
use Rattle.decimal.specs.Puts.{Puts, PutsLines}
use Rattle.table.specs.declared.refusals.Refusal.{Refusal}
use Rattle.meeting.specs.declared.crowd.Crowd.{Crowd}
use Rattle.meeting.specs.Told.{word_of, rows_of, segments_of}
use Rattle.report.specs.MeetLines.{member_lines}

-- `(word >> k) % 2 == 1`, as the loop tests it
module _ (l : Line) (w k : ℕ) where
  pub member_line : w / 2 ^ k % 2 ≡ 1 → cond (bit w k) (l ∷ []) [] ≡ l ∷ []
  unfolding bit
  member_line e = ap (λ (x : ℕ). cond (eqb x 1) (l ∷ []) []) e

  pub no_line : (w / 2 ^ k % 2 ≡ 1 → ⊥) → cond (bit w k) (l ∷ []) [] ≡ []
  unfolding bit
  no_line h = ap (λ (b : Bool). cond b (l ∷ []) []) (ne_eqb (w / 2 ^ k % 2) 1 h)

-- the same lines under another name
pub put_same : (f g : ℕ → Line) (n w : ℕ) {was now : List ℕ} {at next : ℕ} → ((k : ℕ) → f k ≡ g k)
    → PutsLines (member_lines f n w) n was at now next → PutsLines (member_lines g n w) n was at now next
put_same f g n w {was} {now} {at} {next} e P =
    (subst (λ (h : ℕ → Line). Puts (text (member_lines h n w)) was at now next) (fun_ext e) P.0, P.1)

-- ---- the words of an answer

pub word_told : (r : Result ℕ Refusal) → result_unwrap_or r 0 ≡ word_of r
word_told (Ok w) = refl
word_told (Err e) = refl

abbrev no_crowd : Crowd
no_crowd = record { rows = 0; segments = 0 }

pub crowd_told : (r : Result Crowd Refusal) {c : Crowd} → c ≡ result_unwrap_or r no_crowd → (c.rows ≡ rows_of r) × (c.segments ≡ segments_of r)
crowd_told (Ok w) e = (ap (λ (x : Crowd). x.rows) e, ap (λ (x : Crowd). x.segments) e)
crowd_told (Err w) e = (ap (λ (x : Crowd). x.rows) e, ap (λ (x : Crowd). x.segments) e)
