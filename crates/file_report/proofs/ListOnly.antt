-- Only one answer fits a list file, or a table file and an element.
use mathlib.Core.Path.{◌≡◌, refl, sym, ap, ap₂, subst, ◌∙◌}
use mathlib.Core.List.{List, [], ◌∷◌}
use Prim.Native.Nat.{ℕ, ◌+◌, ◌*◌}
use native.Mathlib.Decide.{ℕ_discrete}
use lib.ListN.{length}
use lib.Seq.{sets}
use Rattle.rules.specs.ElementList.{list_header, entry_size, list_bytes}
use Rattle.rules.specs.Refusals.{list_file_checks}
use Rattle.rules.specs.Text.{Line, text, text_of}
use Rattle.rules.specs.Program.{list, ListPrinted, refused, shown}
use Rattle.rules.specs.Calls.{file_ask, one_ring_ask, ListMade}
use Rattle.rules.proofs.Answers.{answers_only}
use Rattle.planner.proofs.Only.{plan_only}
use Rattle.maker.proofs.Answered.{made_only}
use Rattle.file_report.specs.ListWritten.{blank, Rendered, ListWrittenFor}

printed_only : (f : List ℕ) (ks ls : List Line) → ListPrinted f ks → ListPrinted f ls → ks ≡ ls
printed_only f ks ls (refused m p a x) (refused n q b y) =
    let e = answers_only (list_file_checks f) m n p q a b in
    ap₂ (λ (i j : ℕ). list i j ∷ []) e.0 e.1
printed_only f ks ls (refused m p a x) (shown b) = absurd (x (answers_only (list_file_checks f) m 0 p 0 a b).0)
printed_only f ks ls (shown a) (refused n q b y) = absurd (y (answers_only (list_file_checks f) n 0 q 0 b a).0)
printed_only f ks ls (shown a) (shown b) = refl

pub show_only : (f : List ℕ) {was now then : List ℕ} {m n : ℕ} → Rendered (ListPrinted f) was now m → Rendered (ListPrinted f) was then n
    → (now ≡ then) × (m ≡ n)
show_only f {was} A B =
    let e = printed_only f A.lines B.lines A.printed B.printed in (
      A.puts.holds ∙ ap (λ (ls : List Line). sets was 0 (text ls)) e ∙ sym B.puts.holds,
      A.puts.after ∙ ap (λ (ls : List Line). 0 + length (text ls)) e ∙ sym B.puts.after,
    )

pub make_only : (f : List ℕ) (e : ℕ) {was now then : List ℕ} {m n : ℕ} → ListWrittenFor f e was now m → ListWrittenFor f e was then n
    → (now ≡ then) × (m ≡ n)
make_only f e {was} {now} {then} {m} {n} A B = go (ℕ_discrete A.number 0)
  where
    plans : A.plan ≡ B.plan
    plans = (plan_only (file_ask f) A.answer B.answer blank A.plan B.plan A.planned B.planned).1

    made : ListMade (one_ring_ask f) B.plan e list_bytes was A.between A.number A.place A.hyper A.entries
    made = subst (λ (ws : List ℕ). ListMade (one_ring_ask f) ws e list_bytes was A.between
        A.number A.place A.hyper A.entries) plans
        A.made

    same : (A.number ≡ B.number) × (A.place ≡ B.place) × (A.hyper ≡ B.hyper) × (A.entries ≡ B.entries) × (A.between ≡ B.between)
    same = made_only (one_ring_ask f) B.plan e list_bytes was A.between B.between _ _ _ _ _ _ _ _ made B.made

    go : Dec (A.number ≡ 0) → (now ≡ then) × (m ≡ n)
    go (yes z) =
        let a = A.done z in
        let b = B.done (sym same.0 ∙ z) in
        (a.0 ∙ same.4 ∙ sym b.0, a.1 ∙ ap (λ (k : ℕ). list_header + entry_size * k) same.3 ∙ sym b.1)
    go (no z) =
        let a = (A.refused z).0 in
        let b = (B.refused (λ y. z (same.0 ∙ y))).0 in
        let l : list A.number A.place ≡ list B.number B.place = ap₂ list same.0 same.1 in (
          a.holds ∙ ap (λ (x : Line). sets was 0 (text_of x)) l ∙ sym b.holds,
          a.after ∙ ap (λ (x : Line). 0 + length (text_of x)) l ∙ sym b.after,
        )
