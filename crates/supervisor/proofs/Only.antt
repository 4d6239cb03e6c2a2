-- Only one answer to C fits a file, or an ask, and the memory lent beside it.
use mathlib.Core.Path.{◌≡◌, refl, sym, ap, ap₂, ◌∙◌}
use mathlib.Core.List.{List}
use Prim.Native.Nat.{ℕ}
use native.Mathlib.Decide.{ℕ_discrete}
use lib.ListN.{length}
use Rattle.rules.specs.Refusals.{shared_checks, verdict_checks}
use Rattle.rules.specs.Calls.{lent, c_answer, Ask}
use Rattle.rules.proofs.Answers.{None, answered, answers_only}
use Rattle.std.specs.Prelude.{Result, Ok}
use Rattle.table.specs.Refusal.{number, place}
use Rattle.table.specs.declared.refusals.Refusal.{Refusal}
use Rattle.outline.proofs.Listed.{file_listed_only}
use Rattle.verdict.specs.declared.Admitted.{Admitted}
use Rattle.verdict.specs.Verdict.{cut_of, other_of, interval_of, hyper_of, load_of, sets_of, IsVerdict}
use Rattle.verdict.proofs.Judging.{judged_only}
use Rattle.planner.proofs.Only.{plan_only}
use Rattle.raising.proofs.Writing.{raised_only}
use Rattle.supervisor.specs.ToC.{VerdictToC, values, values_checks, Valued, ValuesToC, SharedToC, SetsToC, PlanToC, RaiseToC}
use Rattle.supervisor.proofs.Values.{values_none}

pub verdict_to_c_only : (a : Ask) (r s : ℕ) → VerdictToC a r → VerdictToC a s → r ≡ s
verdict_to_c_only a r s A B =
    let e = answers_only a.checks A.number B.number A.place B.place A.answers B.answers in
    A.as_one ∙ ap₂ c_answer e.0 e.1 ∙ sym B.as_one

-- values as the verdict that gives them
abbrev verdict_of : {f was now : List ℕ} → Valued f was now → Result Admitted Refusal
verdict_of d = Ok (record { cut = d.cut; other = d.other; interval = d.interval; hyper = d.hyper; load = d.load; sets = d.sets })

pub values_to_c_only : (f was now then : List ℕ) (r s : ℕ) → ValuesToC f was now r → ValuesToC f was then s → (r ≡ s) × (now ≡ then)
values_to_c_only f was now then r s A B =
    (A.as_one ∙ ap₂ c_answer same.0 same.1 ∙ sym B.as_one, go (ℕ_discrete A.number 0))
  where
    same : (A.number ≡ B.number) × (A.place ≡ B.place)
    same = answers_only (values_checks f (length was)) _ _ _ _ A.called.answers B.called.answers

    -- the values are those of a verdict, and only one verdict fits
    is_verdict : None (verdict_checks f) → {now : List ℕ} (d : Valued f was now) → IsVerdict f (verdict_of d)
    is_verdict none d = record {
      answers = answered (verdict_checks f) none;
      done = λ e. d.admitted;
      refused = λ e. absurd (e refl);
    }

    go : Dec (A.number ≡ 0) → now ≡ then
    go (yes z) =
        let none = values_none f (length was) A.place (rw z at A.called.answers) in
        let a = A.called.done z in
        let b = B.called.done (sym same.0 ∙ z) in
        let e = judged_only f (verdict_of a) (verdict_of b) (is_verdict none a) (is_verdict none b) in
        a.written
        ∙ ap (λ (v : Result Admitted Refusal). lent (values (cut_of v) (other_of v) (interval_of v) (hyper_of v) (load_of v) (sets_of v)) was) e
        ∙ sym b.written
    go (no z) = A.called.refused z ∙ sym (B.called.refused (λ e. z (same.0 ∙ e)))

pub shared_to_c_only : (f : List ℕ) (i j was now then r s : ℕ) → SharedToC f i j was now r → SharedToC f i j was then s
    → (r ≡ s) × (now ≡ then)
shared_to_c_only f i j was now then r s A B =
    (A.as_one ∙ ap₂ c_answer same.0 same.1 ∙ sym B.as_one, go (ℕ_discrete A.number 0))
  where
    same : (A.number ≡ B.number) × (A.place ≡ B.place)
    same = answers_only (shared_checks f i j) _ _ _ _ A.called.answers B.called.answers

    go : Dec (A.number ≡ 0) → now ≡ then
    go (yes z) = A.called.done z ∙ sym (B.called.done (sym same.0 ∙ z))
    go (no h) = A.called.refused h ∙ sym (B.called.refused (λ z. h (same.0 ∙ z)))

pub sets_to_c_only : (f was now then : List ℕ) (r s : ℕ) → SetsToC f was now r → SetsToC f was then s → (r ≡ s) × (now ≡ then)
sets_to_c_only f was now then r s A B =
    let e = file_listed_only f was now then _ _ _ _ _ _ A.listed B.listed in
    (A.as_one ∙ ap₂ c_answer e.1 e.2 ∙ sym B.as_one, e.0)

pub plan_to_c_only : (a : Ask) (was now then : List ℕ) (r s : ℕ) → PlanToC a was now r → PlanToC a was then s → (r ≡ s) × (now ≡ then)
plan_to_c_only a was now then r s A B =
    let e = plan_only a A.answer B.answer was now then A.planned B.planned in
    (A.as_one ∙ ap (λ (a : Result Unit Refusal). c_answer (number a) (place a)) e.0 ∙ sym B.as_one, e.1)

pub raise_to_c_only : (f was now then : List ℕ) (r s : ℕ) → RaiseToC f was now r → RaiseToC f was then s → (r ≡ s) × (now ≡ then)
raise_to_c_only f was now then r s A B =
    let e = raised_only f was now then _ _ _ _ A.raised B.raised in
    (A.as_one ∙ ap₂ c_answer e.0 e.1 ∙ sym B.as_one, e.2)
