-- The list of sets as a call: what it answers follows from the outline, and only one answer fits.
use mathlib.Core.Path.{◌≡◌, refl, sym, ap, ◌∙◌}
use mathlib.Core.List.{List, [], ◌∷◌}
use Prim.Native.Nat.{ℕ, ◌≤◌, ◌<◌}
use native.Mathlib.Decide.{ℕ_discrete}
use native.Mathlib.Omega.{arith}
use lib.ListN.{length, take}
use Rattle.rules.specs.Bus.{Table}
use Rattle.rules.specs.Line.{Sets}
use Rattle.rules.specs.Refusals.{Check, Answers, short_output, sets_checks}
use Rattle.rules.specs.Calls.{lent, Ask, admitted, line_ask, Listed}
use Rattle.rules.proofs.Answers.{None, Numbered, none_of, none_left, numbered_join, answers_only}
use Rattle.rules.proofs.Calls.{call_refused, call_short, call_done, call_after}
use Rattle.rules.proofs.Sets.{sets_only}
use Rattle.outline.specs.declared.Outline.{Outline}
use Rattle.outline.specs.Outlined.{Found, Outlined}
use Rattle.std.specs.Prelude.{Result, Ok, Err}
use Rattle.table.specs.Refusal.{number, place}
use Rattle.table.specs.declared.refusals.Refusal.{Refusal}
use Rattle.table.proofs.Reasons.{not_done, refusal_only}
use Rattle.outline.specs.Listed.{Traced, count, ListedOn}
use Rattle.outline.proofs.Outlined.{outline_numbered, outline_passed, found_count}

-- the output is too short
abbrev short : Table → ℕ → Type 0
short t room = (ws : List ℕ) × Sets t ws × (room < length ws)

-- ---- on an outline

module _ (was : List ℕ) {o : Outline} {t : Table} (F : Found t o) where
  pub on_short : length was < o.sets → Listed (admitted t) was was 17 0 0
  unfolding sets_checks None
  on_short l = call_short [] (short t (length was)) tt (take o.sets o.words, F.list, omega (arith, found_count F)) (refl, refl)

  pub on_done : (now : List ℕ) → o.sets ≤ length was → now ≡ lent (take o.sets o.words) was
      → Listed (admitted t) was now 0 0 o.sets
  unfolding sets_checks Answers Numbered
  on_done now l h =
      call_done [] (short t (length was)) tt (refl, refl) refl
      (λ w. omega (arith, w.2, found_count F, ap length (sets_only F.timed.sound.rows_low w.1 F.list)))
      (take o.sets o.words, F.list, sym (found_count F), h)

-- ---- from an outline to its ask

pub traced : (a : Ask) {o : Result Outline Refusal} → Outlined a.checks a.table o → Traced o
traced a {o = Ok x} O = (a.table, O.found)
traced a {o = Err e} O = tt

pub list_asked : (a : Ask) → Numbered a.checks → {o : Result Outline Refusal} → Outlined a.checks a.table o → {r : Result ℕ Refusal}
    {was now : List ℕ} → ListedOn o r was now → Listed a was now (number r) (place r) (count r)
unfolding sets_checks
list_asked a N {o = Ok x} O L = call_after a.checks _ (none_of a.checks 0 N O.answers) (L.done a.table O.found)
list_asked a N {o = Err e} O {r = r} {was = was} L =
    let w = L.refused in
    rw (w.0, w.1) (call_refused a.checks (short a.table (length was)) O.answers (not_done e.reason) (refl, refl))

-- ---- only one answer fits

pub listed_only : (a : Ask) → Numbered a.checks → (None a.checks → 0 < a.table.rows) → (was now now' : List ℕ)
    (n n' p p' s s' : ℕ) → Listed a was now n p s → Listed a was now' n' p' s' → (now ≡ now') × (n ≡ n') × (p ≡ p') × (s ≡ s')
unfolding sets_checks Numbered
listed_only a N some was now now' n n' p p' s s' A B = go (ℕ_discrete n 0)
  where
    room : List Check
    room = short_output (short a.table (length was)) ∷ []

    same : (n ≡ n') × (p ≡ p')
    same = answers_only (sets_checks a.checks a.table (length was)) n n' p p' A.answers B.answers

    none : n ≡ 0 → None a.checks
    none z =
        none_left a.checks room
        (none_of (sets_checks a.checks a.table (length was)) p (numbered_join a.checks room N (omega arith))
        (rw z at A.answers))

    go : Dec (n ≡ 0) → (now ≡ now') × (n ≡ n') × (p ≡ p') × (s ≡ s')
    go (yes z) =
        let x = A.done z in
        let y = B.done (sym same.0 ∙ z) in
        let e : x.0 ≡ y.0 = sets_only (some (none z)) x.1 y.1 in
        (x.3 ∙ ap (λ (ws : List ℕ). lent ws was) e ∙ sym y.3, same.0, same.1, x.2 ∙ ap length e ∙ sym y.2)
    go (no z) =
        let x = A.refused z in
        let y = B.refused (λ e. z (same.0 ∙ e)) in
        (x.1 ∙ sym y.1, same.0, same.1, x.0 ∙ sym y.0)

-- of a file's table
pub file_listed_only : (f was now now' : List ℕ) (n n' p p' s s' : ℕ) → Listed (line_ask f) was now n p s
    → Listed (line_ask f) was now' n' p' s' → (now ≡ now') × (n ≡ n') × (p ≡ p') × (s ≡ s')
file_listed_only f = listed_only (line_ask f) (outline_numbered f) (λ n. (outline_passed f n).sound.rows_low)

-- two answers of the same number, place and count
same_count : (r s : Result ℕ Refusal) → number r ≡ number s → place r ≡ place s → count r ≡ count s → r ≡ s
same_count (Ok m) (Ok n) e f g = ap Ok g
same_count (Ok m) (Err q) e f g = absurd (not_done q.reason (sym e))
same_count (Err p) (Ok n) e f g = absurd (not_done p.reason e)
same_count (Err p) (Err q) e f g = ap Err (refusal_only p q e f)

-- on an outline
pub listed_on_only : {o : Result Outline Refusal} → Traced o → {r s : Result ℕ Refusal} (was now then : List ℕ) → ListedOn o r was now
    → ListedOn o s was then → (r ≡ s) × (now ≡ then)
unfolding Numbered
listed_on_only {o = Ok x} T {r} {s} was now then A B =
    let t = T.0 in
    let e =
    listed_only (admitted t) tt (λ n. T.1.timed.sound.rows_low) was now then (number r) (number s) (place r) (place s) (count r)
    (count s) (A.done t T.1) (B.done t T.1) in
    (same_count r s e.1 e.2 e.3, e.0)
listed_on_only {o = Err x} T was now then A B =
    let e = A.refused in
    let f = B.refused in
    (e.0 ∙ sym f.0, e.1 ∙ sym f.1)
