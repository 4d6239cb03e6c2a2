-- The lines that `render_plain` writes are those that the program prints, and only one answer fits.
use mathlib.Core.Path.{◌≡◌, sym, ap, ap₂, subst, ◌∙◌}
use mathlib.Core.List.{List, [], ◌∷◌, ◌++◌}
use Prim.Native.Nat.{ℕ, ◌+◌}
use native.Mathlib.Omega.{arith}
use lib.ListN.{length}
use lib.Seq.{sets}
use Rattle.rules.specs.Bounds.{max_slots}
use Rattle.rules.specs.TableFile.{file_table}
use Rattle.rules.specs.Planner.{WholePlan}
use Rattle.rules.specs.Refusals.{Answers, verdict_checks}
use Rattle.rules.specs.Text.{Line, text}
use Rattle.rules.specs.Program.{verdict, slot_lines}
use Rattle.rules.proofs.Answers.{answers_only}
use Rattle.rules.proofs.Plans.{plan_only}
use Rattle.table.specs.Refusal.{number_of}
use Rattle.table.specs.declared.refusals.Refusal.{Refusal}
use Rattle.table.proofs.Reasons.{not_done}
use Rattle.decimal.specs.Puts.{Puts, PutsLine, PutsLines}
use Rattle.decimal.proofs.Puts.{puts_more}
use Rattle.decimal.proofs.Text.{text_join, text_one}
use Rattle.report.specs.Plain.{PlainPrinted, refused, admitted, PlainRendered}

module _ (f : List ℕ) where
  pub rendered_refused : (r : Refusal) → Answers (verdict_checks f) (number_of r.reason) r.place → {was now : List ℕ} {size : ℕ}
      → PutsLine (verdict (number_of r.reason) r.place) was 0 now size → PlainRendered f was now size
  rendered_refused r a F = record {
    lines = verdict (number_of r.reason) r.place ∷ [];
    printed = refused (number_of r.reason) r.place a (not_done r.reason);
    puts = rw (text_one (verdict (number_of r.reason) r.place)) F.0;
    fits = omega (arith, F.1);
  }

  pub rendered_admitted : Answers (verdict_checks f) 0 0 → {was one now : List ℕ} {a size : ℕ}
      → ((ws : List ℕ) × WholePlan (file_table f) ws × PutsLines (slot_lines ws) max_slots was 0 one a)
      → ((ws : List ℕ) × WholePlan (file_table f) ws × PutsLines (slot_lines ws) max_slots one a now size)
      → PlainRendered f was now size
  rendered_admitted c {was} {one} {now} {a} {size} P Q = record {
    lines = slot_lines P.0 ++ slot_lines Q.0;
    printed = admitted P.0 Q.0 c P.1 Q.1;
    puts = subst (λ (t : List ℕ). Puts t was 0 now size) (sym (text_join (slot_lines P.0) (slot_lines Q.0)))
        (puts_more P.2.0 Q.2.0);
    fits = omega (arith, P.2.1, Q.2.1);
  }

-- ---- only one answer fits

module _ (f : List ℕ) where
  lines_only : (ks ls : List Line) → PlainPrinted f ks → PlainPrinted f ls → ks ≡ ls
  lines_only _ _ (refused m p a h) (refused n q b g) =
      let e = answers_only (verdict_checks f) m n p q a b in
      ap₂ (λ (x y : ℕ). verdict x y ∷ []) e.0 e.1
  lines_only _ _ (refused m p a h) (admitted vs ws b P W) = absurd (h (answers_only (verdict_checks f) m 0 p 0 a b).0)
  lines_only _ _ (admitted vs ws b P W) (refused m p a h) = absurd (h (answers_only (verdict_checks f) m 0 p 0 a b).0)
  lines_only _ _ (admitted vs ws a P W) (admitted xs ys b X Y) =
      ap₂ (λ (us zs : List ℕ). slot_lines us ++ slot_lines zs) (plan_only (file_table f) vs xs P X) (plan_only (file_table f) ws ys W Y)

  pub plain_rendered_only : (was now then : List ℕ) (m n : ℕ) → PlainRendered f was now m → PlainRendered f was then n
      → (now ≡ then) × (m ≡ n)
  plain_rendered_only was now then m n A B =
      let e = lines_only A.lines B.lines A.printed B.printed in (
        A.puts.holds ∙ ap (λ (ls : List Line). sets was 0 (text ls)) e ∙ sym B.puts.holds,
        A.puts.after ∙ ap (λ (ls : List Line). 0 + length (text ls)) e ∙ sym B.puts.after,
      )
