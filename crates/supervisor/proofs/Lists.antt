-- The list of one element for C: only one answer fits, refusals can be told from sizes, and what ring_plan wrote is never refused.
use mathlib.Core.Path.{◌≡◌, sym, ap, ap₂, subst, ◌∙◌}
use mathlib.Core.Logic.{⊎_elim}
use mathlib.Core.List.{List, [], ◌∷◌}
use Prim.Native.Nat.{ℕ, ◌+◌, ◌*◌, ◌≤◌, ◌<◌}
use native.Mathlib.Decide.{ℕ_discrete}
use native.Mathlib.Omega.{arith}
use lib.ListN.{length, take, drop, length-append}
use lib.Seq.{get_or-take}
use Rattle.numbers.specs.Lists.{at}
use Rattle.rules.specs.Bus.{Table}
use Rattle.rules.specs.TableFile.{table_mark, mark, file_table}
use Rattle.rules.specs.Loads.{hyperperiod}
use Rattle.rules.specs.ElementList.{list_header, entry_size, list_bytes, moves_list, BadWord}
use Rattle.rules.specs.Refusals.{short_output, header_checks, file_checks, given_checks, verdict_checks, plan_checks}
use Rattle.rules.specs.Calls.{one_ring_ask, lent}
use Rattle.rules.proofs.Answers.{None, Numbered, none_of, none_left, numbered_join}
use Rattle.rules.proofs.Calls.{lent_take, call_must}
use Rattle.decoding.proofs.OneRing.{one_rings}
use Rattle.table.specs.Refusal.{number}
use Rattle.verdict.proofs.Bound.{verdict_numbered, admissible_of}
use Rattle.promises.specs.Demands.{Carries}
use Rattle.promises.proofs.Demands.{plan_carries}
use Rattle.lists.proofs.RoundTrip.{bytes_length}
use Rattle.maker.proofs.Answered.{made_only}
use Rattle.maker.proofs.Promises.{maker_none, few, made_entries}
use Rattle.supervisor.specs.ToC.{list_refusal, ListToC}
use Rattle.supervisor.specs.Boundary.{ToldApart, ElementOfPlan}

pub list_to_c_only : (f ws : List ℕ) (e : ℕ) (was now then : List ℕ) (r s : ℕ) → ListToC f ws e was now r → ListToC f ws e was then s
    → (r ≡ s) × (now ≡ then)
list_to_c_only f ws e was now then r s A B = (go (ℕ_discrete A.number 0), same.4)
  where
    same : (A.number ≡ B.number) × (A.place ≡ B.place) × (A.hyper ≡ B.hyper) × (A.entries ≡ B.entries) × (now ≡ then)
    same = made_only (one_ring_ask f) ws e list_bytes was now then _ _ _ _ _ _ _ _ A.made B.made

    go : Dec (A.number ≡ 0) → r ≡ s
    go (yes z) = A.size z ∙ ap (λ (k : ℕ). list_header + entry_size * k) same.3 ∙ sym (B.size (sym same.0 ∙ z))
    go (no z) = A.refused z ∙ ap₂ list_refusal same.0 same.1 ∙ sym (B.refused (λ y. z (same.0 ∙ y)))

pub told_apart : ToldApart
told_apart f ws e was now r L = (
  λ z. omega (arith, L.size z, made_entries f ws e list_bytes was now _ _ _ _ z L.made),
  λ z. omega (arith, L.refused z),
)

-- ---- what ring_plan wrote

-- no word of a plan that carries a table is bad
pub carried_clean : (t : Table) (ws plan : List ℕ) → Carries t ws → ((s : ℕ) → s < hyperperiod t → at plan s ≡ at ws s)
    → (s : ℕ) → s < hyperperiod t → BadWord t (at plan s) → ⊥
carried_clean t ws plan C e s l b =
    let B : BadWord t (at ws s) = subst (BadWord t) (e s l) b in
    ⊎_elim (λ q. let z : ⊥ = omega (arith, C.rows q.0 s q.2, q.1) in z)
    (λ q. let z : ⊥ = omega (arith, q.2, C.apart q.0 q.1 s q.6 q.4 q.5) in z) B

plan_numbered : (f : List ℕ) (room : ℕ) → Numbered (plan_checks (verdict_checks f) (file_table f) room)
unfolding plan_checks Numbered
plan_numbered f room = numbered_join (verdict_checks f) _ (verdict_numbered f) (omega arith)

plan_admits : (f : List ℕ) (room : ℕ) → None (plan_checks (verdict_checks f) (file_table f) room) → None (verdict_checks f)
unfolding plan_checks
plan_admits f room a = none_left (verdict_checks f) (short_output (room < hyperperiod (file_table f)) ∷ []) a

-- a table with one ring that is admitted is admitted where one ring alone is taken
own_none : (f : List ℕ) → mark f ≡ table_mark → None (verdict_checks f) → None (one_ring_ask f).checks
unfolding verdict_checks given_checks file_checks header_checks None
own_none f m n = (n.0, (λ h. h m, n))

lent_long : (ws was : List ℕ) → length ws ≤ length (lent ws was)
unfolding lent
lent_long ws was = omega (arith, length-append ws (drop (length ws) was))

pub element_of_plan : ElementOfPlan
element_of_plan f plan plan' e was now s r m P z L there room =
    let t : Table = file_table f in
    let n : number P.answer ≡ 0 = omega (arith, P.as_one) in
    let none = plan_admits f (length plan) (none_of _ _ (plan_numbered f (length plan)) (rw n at P.planned.planned.answers)) in
    let A = admissible_of f none in
    let w = P.planned.planned.done n in
    let C = plan_carries t w.0 A w.1 in
    let front : take (hyperperiod t) plan' ≡ w.0 =
    ap (take (hyperperiod t)) w.2 ∙ lent_take w.0 plan (hyperperiod t) C.size in
    let words : (k : ℕ) → k < hyperperiod t → at plan' k ≡ at w.0 k =
    λ k l. sym (get_or-take (hyperperiod t) plan' k 0 l) ∙ ap (λ (ws : List ℕ). at ws k) front in
    let clean = carried_clean t w.0 plan' C words in
    let size = bytes_length (moves_list t e plan') in
    let own = own_none f m none in
    let least = few t e plan' A.sound (one_rings f (verdict_checks f) own) clean in
    let must = call_must
    (maker_none (one_ring_ask f) plan' e (length was) (length (list_bytes (moves_list t e plan'))) own there clean
    (omega (arith, C.size, ap length w.2, lent_long w.0 plan)) (omega (arith, size, least, A.short, room))) L.made in
    (L.size must.0 ∙ ap (λ (k : ℕ). list_header + entry_size * k) must.2.1 ∙ sym size, must.2.2)
