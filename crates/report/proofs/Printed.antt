-- The lines that are written of an analysed table are those that the program prints.
use mathlib.Core.Path.{◌≡◌, refl, sym, ap, subst, ◌∙◌}
use mathlib.Core.Logic.{⊎_elim}
use mathlib.Core.List.{List, [], ◌∷◌, ◌++◌}
use Prim.Native.Nat.{ℕ, ◌≤◌, ◌<◌, min}
use native.Mathlib.Omega.{arith}
use lib.ListN.{length, take}
use lib.Seq.{take_all}
use Rattle.numbers.proofs.Truth.{le_or_lt}
use Rattle.rules.specs.Bounds.{max_rows, max_slots}
use Rattle.rules.specs.Bus.{Table}
use Rattle.rules.specs.Line.{Sets}
use Rattle.rules.specs.Loads.{hyperperiod, reported}
use Rattle.rules.specs.Planner.{WholePlan}
use Rattle.rules.specs.Refusals.{Answers, plan_checks}
use Rattle.rules.specs.Calls.{Ask}
use Rattle.rules.specs.Calls as calls
use Rattle.rules.proofs.Answers.{None, Numbered, answered, none_of}
use Rattle.rules.proofs.Calls.{lent_take, call_must}
use Rattle.rules.proofs.Sets.{sets_only}
use Rattle.verdict.specs.declared.Analysis.{Analysis}
use Rattle.verdict.specs.Analysed.{Accepted, Analysed}
use Rattle.verdict.proofs.Judging.{accepted_values}
use Rattle.promises.proofs.Demands.{plan_size}
use Rattle.std.specs.Prelude.{Result, Ok, Err}
use Rattle.table.specs.Refusal.{number_of, number, place}
use Rattle.table.specs.declared.refusals.Refusal.{Refusal}
use Rattle.table.proofs.Reasons.{not_done}
use Rattle.outline.specs.declared.Outline.{Outline}
use Rattle.outline.proofs.Outlined.{found_few, found_count}
use Rattle.planner.specs.Answers.{PlanAnswer}
use Rattle.planner.specs.Analysed.{PlannedOn}
use Rattle.rules.specs.Text.{Line, text_of, text}
use Rattle.decimal.specs.Puts.{Puts, PutsLine, PutsLines}
use Rattle.decimal.proofs.Puts.{puts_more}
use Rattle.decimal.proofs.Text.{text_first, text_join, text_one}
use Rattle.rules.specs.Program.{verdict, values, set_lines, slot_lines, max_input, PrintedFor, refused, admitted}
use Rattle.report.specs.Rendered.{cuts, RenderedFor, RenderedOn}
use Rattle.report.proofs.Cuts.{cuts_are}

-- the line of an answer
pub line_told : {A : Type 0} {a b : Result A Refusal} → a ≡ b → {was now : List ℕ} {at size : ℕ}
    → PutsLine (verdict (number a) (place a)) was at now size → PutsLine (verdict (number b) (place b)) was at now size
line_told {A} e {was} {now} {at} {size} P = subst (λ (x : Result A Refusal). PutsLine (verdict (number x) (place x)) was at now size) e P

-- no more than it reads
pub read_input : (input : List ℕ) (k : ℕ) → k ≡ min (length input) max_input → take k input ≡ take max_input input
read_input input k e =
    ⊎_elim
    (λ (l : length input ≤ max_input). take_all k input (omega arith) ∙ sym (take_all max_input input l))
    (λ (l : max_input < length input). let q : k ≡ max_input = omega arith in ap (λ (j : ℕ). take j input) q)
    (le_or_lt (length input) max_input)

-- ---- an admitted table's lists

module _ {t : Table} {a : Analysis} (A : Accepted t a) where
  pub list_count : (length (take a.outline.sets a.outline.words) ≡ a.outline.sets) × (a.outline.sets ≤ max_rows)
  list_count = (found_count A.outline, found_few A.outline)

  plan_passed : (room : ℕ) → max_slots ≤ room → None (plan_checks [] t room)
  unfolding plan_checks None
  plan_passed room l = ((λ w. omega (arith, A.outline.timed.short)), tt)

  -- the front of the slice that was lent is the plan
  pub planned : {r : Result Unit Refusal} {was now : List ℕ} {hyper : ℕ} → max_slots ≤ length was → hyper ≡ a.outline.time.hyper
      → PlanAnswer (calls.admitted t) r was now
      → WholePlan t (take hyper now) × (length (take hyper now) ≡ hyper) × (hyper ≤ max_slots)
  planned {r} {was} {now} {hyper} l e P =
      let h : hyper ≡ hyperperiod t = e ∙ A.outline.timed.hyper in
      let W = (call_must (plan_passed (length was) l) P.planned).2 in
      let w : take hyper now ≡ W.0 =
      ap (take hyper) W.2 ∙ lent_take W.0 was hyper (plan_size A.admissible W.1 ∙ sym h) in
      (rw w W.1, ap length w ∙ plan_size A.admissible W.1 ∙ sym h, omega (arith, A.outline.timed.short))

-- whatever table the analysis is of
pub planned_on : {a : Analysis} → ((t : Table) × Accepted t a) → {r : Result Unit Refusal} {was now : List ℕ} {hyper : ℕ}
    → max_slots ≤ length was → hyper ≡ a.outline.time.hyper → PlannedOn (Ok a) r was now
    → (length (take hyper now) ≡ hyper) × (hyper ≤ max_slots) × ((t : Table) → Accepted t a → WholePlan t (take hyper now))
planned_on w l e P =
    let one = planned w.1 l e (P.done w.0 w.1) in
    (one.1, one.2, λ t A. (planned A l e (P.done t A)).0)

-- ---- an admitted table's analysis, as it is written

module _ (a : Analysis) {was one : List ℕ} {b : ℕ} (F : PutsLine (verdict 0 0) was 0 one b) where
  abbrev o : Outline
  o = a.outline

  abbrev cut_part : List Line
  cut_part = cuts o.cut o.other

  abbrev value_part : List Line
  value_part = values o.time.interval o.time.hyper a.load

  lines_are : {t : Table} → Accepted t a → (ws vs : List ℕ) → Sets t ws → WholePlan t vs
      → PrintedFor (calls.admitted t) (verdict 0 0 ∷ (cut_part ++ (value_part ++ (set_lines ws ++ slot_lines vs))))
  unfolding Answers
  lines_are {t} A ws vs S W =
      let D = accepted_values A in
      let same : D.list ≡ ws = sets_only A.outline.timed.sound.rows_low D.listed S in
      subst
      (λ (ls : List Line).
      PrintedFor (calls.admitted t) (verdict 0 0 ∷ (ls ++ (value_part ++ (set_lines ws ++ slot_lines vs)))))
      (sym (cuts_are A.outline.timed.sound A.outline.clear D.cut_is D.second_is))
      (rw (D.interval_is, D.hyper_is, D.load_is ∙ ap (reported t) same) (admitted ws vs (refl, refl) S W))

  pub on_admitted : {two three four now : List ℕ} {d g k size : ℕ} → PutsLines (cuts o.cut o.other) 2 one b two d
      → PutsLines (values o.time.interval o.time.hyper a.load) 3 two d three g
      → ((t : Table) → Accepted t a → (ws : List ℕ) × Sets t ws × PutsLines (set_lines ws) max_rows three g four k)
      → ((t : Table) → Accepted t a → (vs : List ℕ) × WholePlan t vs × PutsLines (slot_lines vs) max_slots four k now size)
      → RenderedOn (Ok a) was now size
  on_admitted {two} {three} {four} {now} {d} {g} {k} {size} C A S P = record { done = λ t T. put t T (S t T) (P t T); refused = tt }
    where
      put : (t : Table) → Accepted t a → ((ws : List ℕ) × Sets t ws × PutsLines (set_lines ws) max_rows three g four k)
          → ((vs : List ℕ) × WholePlan t vs × PutsLines (slot_lines vs) max_slots four k now size)
          → RenderedFor (calls.admitted t) was now size
      put t T (ws, I, L) (vs, W, M) =
          let lists : List Line = set_lines ws ++ slot_lines vs in
          let joined =
          text_first (verdict 0 0) (cut_part ++ (value_part ++ lists))
          ∙ ap (λ (u : List ℕ). text_of (verdict 0 0) ++ u) (text_join cut_part (value_part ++ lists)
          ∙ ap (λ (u : List ℕ). text cut_part ++ u) (text_join value_part lists
          ∙ ap (λ (u : List ℕ). text value_part ++ u) (text_join (set_lines ws) (slot_lines vs)))) in
          record {
            lines = verdict 0 0 ∷ (cut_part ++ (value_part ++ lists));
            printed = lines_are T ws vs I W;
            puts = subst (λ (u : List ℕ). Puts u was 0 now size) (sym joined)
                (puts_more F.0 (puts_more C.0 (puts_more A.0 (puts_more L.0 M.0))));
            fits = omega (arith, F.1, C.1, A.1, L.1, M.1);
          }

-- ---- from an analysis to its ask

-- an admitted table's lines are those of an ask that admits it
printed_after : (q : Ask) → None q.checks → (ls : List Line) → PrintedFor (calls.admitted q.table) ls → PrintedFor q ls
unfolding Answers
printed_after q none _ (refused n p a h) = absurd (h a.0)
printed_after q none _ (admitted ws vs a S W) = admitted ws vs (answered q.checks none) S W

pub rendered_asked : (q : Ask) → Numbered q.checks → {a : Result Analysis Refusal} → Analysed q.checks q.table a → (was now : List ℕ) (size : ℕ)
    → RenderedOn a was now size → RenderedFor q was now size
rendered_asked q N {a = Ok x} A was now size O =
    let r = O.done q.table A.found in
    record {
      lines = r.lines;
      printed = printed_after q (none_of q.checks 0 N A.answers) r.lines r.printed;
      puts = r.puts;
      fits = r.fits;
    }
rendered_asked q N {a = Err e} A was now size O =
    let n = number_of e.reason in
    let F = O.refused in
    record {
      lines = verdict n e.place ∷ [];
      printed = refused n e.place A.answers (not_done e.reason);
      puts = rw (text_one (verdict n e.place)) F.0;
      fits = omega (arith, F.1);
    }
