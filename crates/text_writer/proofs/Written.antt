-- What the writer of texts answers, from its checks; and that only one answer fits.
use mathlib.Core.Path.{◌≡◌, refl, sym, ◌∙◌}
use mathlib.Core.Logic.{⊎_elim, ◌≢◌}
use mathlib.Core.List.{List}
use Prim.Native.Nat.{ℕ, ◌≤◌, ◌<◌}
use native.Mathlib.Omega.{arith}
use lib.ListN.{length}
use Rattle.numbers.proofs.Lists.{filled_start, filled_sets}
use Rattle.rules.specs.TableFile.{rings_of, memory_labelled_with}
use Rattle.rules.specs.Refusals.{Answers, unknown_mark, version_checks}
use Rattle.rules.specs.Calls.{lent}
use Rattle.rules.proofs.Answers.{None, applied, passed}
use Rattle.rules.proofs.Calls.{filled_lent, call_refused, call_short, call_done, call_only}
use Rattle.table.proofs.Faults.{version_numbered}
use Rattle.decimal.specs.Puts.{Puts}
use Rattle.grammar.specs.TableText.{table_text, text_writer_checks, TextWritten}
use Rattle.text_writer.specs.Lines.{WrittenWith}

-- a text that fits stands at the front
pub put_front : {text was now : List ℕ} {size : ℕ} → Puts text was 0 now size → length text ≤ length was → now ≡ lent text was
put_front {text} {was} P l = P.holds ∙ filled_lent (filled_sets text (length text) (filled_start was) (omega arith) l)

module _ (r v M n : ℕ) (xs was : List ℕ) where
  abbrev short : Type 0
  short = length was < length (table_text v (memory_labelled_with r M n xs))

  pub write_refused : (m p : ℕ) → Answers (version_checks r v M n xs) m p → m ≢ 0 → WrittenWith r v M n xs was was m p 0
  write_refused m p a h = call_refused (version_checks r v M n xs) short a h (refl, refl)

  pub write_short : None (version_checks r v M n xs) → short → WrittenWith r v M n xs was was 17 0 0
  write_short a h = call_short (version_checks r v M n xs) short a h (refl, refl)

  pub write_done : (now : List ℕ) (m p size : ℕ) → Answers (version_checks r v M n xs) m p → m ≡ 0 → (short → ⊥)
      → now ≡ lent (table_text v (memory_labelled_with r M n xs)) was → size ≡ length (table_text v (memory_labelled_with r M n xs))
      → WrittenWith r v M n xs was now m p size
  write_done now m p size a e h o s = call_done (version_checks r v M n xs) short (version_numbered r M n xs v) a e h (o, s)

-- with the mark
module _ (m : List ℕ) (v M n : ℕ) (xs was : List ℕ) where
  pub mark_refused : (unknown_mark m).applies → TextWritten m v M n xs was was 2 0 0
  unfolding text_writer_checks
  mark_refused w = record {
    answers = applied _ _ 2 0 w refl refl;
    done = λ e. absurd (let z : ⊥ = omega arith in z);
    refused = λ h. (refl, refl);
  }

  pub mark_known : (now : List ℕ) (number place size : ℕ) → ((unknown_mark m).applies → ⊥)
      → WrittenWith (rings_of m) v M n xs was now number place size → TextWritten m v M n xs was now number place size
  unfolding text_writer_checks
  mark_known now number place size h c =
      record { answers = passed _ _ number place h c.answers; done = c.done; refused = c.refused }

pub text_written_only : (m : List ℕ) (v M n : ℕ) (xs was now now' : List ℕ) (k k' p p' s s' : ℕ)
    → TextWritten m v M n xs was now k p s → TextWritten m v M n xs was now' k' p' s'
    → (k ≡ k') × (p ≡ p') × (s ≡ s') × (now ≡ now')
text_written_only m v M n xs was now now' k k' p p' s s' c d =
    let z = call_only c d in
    let y : (now ≡ now') × (s ≡ s') =
    ⊎_elim (λ w. (w.0.0 ∙ sym w.1.0, w.0.1 ∙ sym w.1.1)) (λ w. (w.0.0 ∙ sym w.1.0, w.0.1 ∙ sym w.1.1)) z.2 in
    (z.0, z.1, y.1, y.0)
