-- Only one answer of `render`, of `render_relayed` and of `put_analysis` fits.
use mathlib.Core.Path.{◌≡◌, sym, ap, ap₂, ◌∙◌}
use mathlib.Core.List.{List, [], ◌∷◌}
use Prim.Native.Nat.{ℕ, ◌+◌}
use lib.ListN.{length, take}
use lib.Seq.{sets}
use Rattle.rules.specs.Calls.{Ask, file_ask, relayed_ask}
use Rattle.rules.specs.Calls as calls
use Rattle.rules.specs.Text.{Line, text}
use Rattle.rules.specs.Program.{verdict, table_lines, max_input, PrintedFor, refused, admitted}
use Rattle.rules.proofs.Answers.{Numbered, none_of, answers_only}
use Rattle.rules.proofs.Sets.{sets_only}
use Rattle.rules.proofs.Plans.{plan_only}
use Rattle.std.specs.Prelude.{Result, Ok, Err}
use Rattle.table.specs.declared.refusals.Refusal.{Refusal}
use Rattle.verdict.specs.declared.Analysis.{Analysis}
use Rattle.planner.specs.Proper.{Proper}
use Rattle.planner.specs.Analysed.{Usable}
use Rattle.planner.proofs.Asks.{file_proper}
use Rattle.relayed.proofs.Checked.{relayed_numbered, relayed_admissible}
use Rattle.report.specs.Rendered.{RenderedFor, Rendered, RelayRendered, RenderedOn}

module _ (q : Ask) (P : Proper q) where
  lines_only : (ks ls : List Line) → PrintedFor q ks → PrintedFor q ls → ks ≡ ls
  lines_only _ _ (refused m p a h) (refused n r b g) =
      let e = answers_only q.checks m n p r a b in
      ap₂ (λ (x y : ℕ). verdict x y ∷ []) e.0 e.1
  lines_only _ _ (refused m p a h) (admitted ws vs b S W) = absurd (h (answers_only q.checks m 0 p 0 a b).0)
  lines_only _ _ (admitted ws vs b S W) (refused m p a h) = absurd (h (answers_only q.checks m 0 p 0 a b).0)
  lines_only _ _ (admitted ws vs a S W) (admitted xs ys b R X) =
      let some = (P.admissible (none_of q.checks 0 P.numbered a)).sound.rows_low in
      ap₂ (table_lines q.table) (sets_only some S R) (plan_only q.table vs ys W X)

  pub rendered_only : (was now then : List ℕ) (m n : ℕ) → RenderedFor q was now m → RenderedFor q was then n → (now ≡ then) × (m ≡ n)
  rendered_only was now then m n A B =
      let e = lines_only A.lines B.lines A.printed B.printed in (
        A.puts.holds ∙ ap (λ (ls : List Line). sets was 0 (text ls)) e ∙ sym B.puts.holds,
        A.puts.after ∙ ap (λ (ls : List Line). 0 + length (text ls)) e ∙ sym B.puts.after,
      )

pub file_rendered_only : (input was now then : List ℕ) (m n : ℕ) → Rendered input was now m → Rendered input was then n
    → (now ≡ then) × (m ≡ n)
file_rendered_only input = rendered_only (file_ask (take max_input input)) (file_proper (take max_input input))

pub relay_rendered_only : (input : List ℕ) (r : ℕ) (was now then : List ℕ) (m n : ℕ) → RelayRendered input r was now m
    → RelayRendered input r was then n → (now ≡ then) × (m ≡ n)
relay_rendered_only input r =
    let f = take max_input input in
    rendered_only (relayed_ask f r) (record { numbered = relayed_numbered f r; admissible = relayed_admissible f r })

-- of an analysis
pub rendered_on_only : {a : Result Analysis Refusal} → Usable a → (was now then : List ℕ) (m n : ℕ) → RenderedOn a was now m
    → RenderedOn a was then n → (now ≡ then) × (m ≡ n)
unfolding Numbered
rendered_on_only {a = Ok x} U was now then m n A B =
    rendered_only (calls.admitted U.0) (record { numbered = tt; admissible = λ y. U.1.admissible }) was now then m n
    (A.done U.0 U.1) (B.done U.0 U.1)
rendered_on_only {a = Err e} U was now then m n A B =
    let x = A.refused.0 in
    let y = B.refused.0 in
    (x.holds ∙ sym y.holds, x.after ∙ sym y.after)
