-- Only one answer fits two rows, or a set, of a table file.
use mathlib.Core.Path.{◌≡◌, sym, ap, ap₂, ◌∙◌}
use mathlib.Core.List.{List, ◌∷◌, ◌++◌}
use Prim.Native.Nat.{ℕ, ◌+◌}
use lib.ListN.{length}
use lib.Seq.{sets}
use Rattle.rules.specs.Text.{Line, text}
use Rattle.rules.specs.Program.{shared, row_lines, segment_lines, MeetingPrinted, CrowdPrinted}
use Rattle.meeting.proofs.Only.{met_only}
use Rattle.meeting.proofs.CrowdOnly.{crowded_only}
use Rattle.report.specs.MeetLines.{Rendered}

meeting_only : (f : List ℕ) (i j : ℕ) (ks ls : List Line) → MeetingPrinted f i j ks → MeetingPrinted f i j ls → ks ≡ ls
meeting_only f i j ks ls A B =
    let e = met_only f i j _ _ _ _ _ _ A.met B.met in
    A.lines ∙ ap₂ (λ (x : Line) (w : ℕ). x ∷ segment_lines w) (ap₂ shared e.0 e.1) e.2 ∙ sym B.lines

crowd_only : (f : List ℕ) (k : ℕ) (ks ls : List Line) → CrowdPrinted f k ks → CrowdPrinted f k ls → ks ≡ ls
crowd_only f k ks ls A B =
    let e = crowded_only f k _ _ _ _ _ _ _ _ A.crowded B.crowded in
    A.lines
    ∙ ap₂ (λ (x : Line) (xs : List Line). x ∷ xs) (ap₂ shared e.0 e.1)
    (ap₂ (λ (v w : ℕ). row_lines v ++ segment_lines w) e.2 e.3)
    ∙ sym B.lines

module _ {P : List Line → Type 0} (one : (ks ls : List Line) → P ks → P ls → ks ≡ ls) {was now then : List ℕ} {m n : ℕ} where
  only : Rendered P was now m → Rendered P was then n → (now ≡ then) × (m ≡ n)
  only A B =
      let e = one A.lines B.lines A.printed B.printed in (
        A.puts.holds ∙ ap (λ (ls : List Line). sets was 0 (text ls)) e ∙ sym B.puts.holds,
        A.puts.after ∙ ap (λ (ls : List Line). 0 + length (text ls)) e ∙ sym B.puts.after,
      )

pub rows_only : (f : List ℕ) (i j : ℕ) {was now then : List ℕ} {m n : ℕ} → Rendered (MeetingPrinted f i j) was now m
    → Rendered (MeetingPrinted f i j) was then n → (now ≡ then) × (m ≡ n)
rows_only f i j = only (meeting_only f i j)

pub set_only : (f : List ℕ) (k : ℕ) {was now then : List ℕ} {m n : ℕ} → Rendered (CrowdPrinted f k) was now m
    → Rendered (CrowdPrinted f k) was then n → (now ≡ then) × (m ≡ n)
set_only f k = only (crowd_only f k)
