-- The promises of the planner's calls, proved of every answer that their contracts allow.
use mathlib.Core.Path.{◌≡◌, refl, sym, ap, ◌∙◌, subst}
use mathlib.Core.List.{List, []}
use Prim.Native.Nat.{ℕ, zero, ◌-◌, ◌≤◌}
use lib.ListN.{length, take}
use lib.Seq.{take_at}
use Rattle.rules.specs.Bus.{Table}
use Rattle.rules.specs.Loads.{hyperperiod, start, end}
use Rattle.rules.specs.Planner as rules
use Rattle.rules.specs.Planner.{due}
use Rattle.rules.specs.Refusals.{Answers, plan_checks, step_room, step_checks}
use Rattle.rules.specs.Calls.{lent, Ask}
use Rattle.rules.proofs.Answers.{None, joined, none_of, answers_only}
use Rattle.rules.proofs.Calls.{lent_take}
use Rattle.rules.proofs.Plans as plans
use Rattle.lags.specs.Lags.{Admissible, NotOff}
use Rattle.lags.proofs.States.{not_off, not_off_fresh, not_off_next, standing_below, standing_above}
use Rattle.promises.proofs.Demands.{plan_carries, plan_finished, plan_size}
use Rattle.table.specs.Refusal.{place}
use Rattle.planner.specs.declared.Stage.TheVariants.{Finished}
use Rattle.planner.specs.declared.Planner.{Planner}
use Rattle.planner.specs.State.{stage_of, planner_of}
use Rattle.planner.specs.Proper.{Proper, Admits}
use Rattle.planner.specs.Promises.{
  Steps,
  none,
  more,
  FreshNotOff,
  NeverRefused,
  WholeIsSteps,
  StandingsBetween,
  Carried,
  ExactlyOnePlan,
  Promises,
}
use Rattle.planner.proofs.State.{fresh_is, stage_same}
use Rattle.planner.proofs.Checks.{plan_done, step_done, plan_passed, standings_passed}
use Rattle.planner.proofs.Only.{step_only, plan_only, standings_only}
use Rattle.planner.proofs.Asks.{file_proper}

-- ---- asks that admit their table

module _ (a : Ask) (P : Proper a) (A : Admits a) where
  pub admitted_none : None a.checks
  admitted_none = none_of a.checks 0 P.numbered A

  pub admitted_table : Admissible a.table
  admitted_table = P.admissible admitted_none

-- ---- steps

pub fresh_not_off : FreshNotOff
fresh_not_off a P A = not_off.1 (subst (NotOff a.table) (sym fresh_is) (not_off_fresh (admitted_table a P A)))

-- the call's own checks come after those of the ask
own_step : (a : Ask) (p : rules.Planner) (room n q : ℕ) → None a.checks → Answers (step_checks [] a.table p room) n q
    → Answers (step_checks a.checks a.table p room) n q
unfolding step_checks
own_step a p room n q passed c = joined a.checks _ n q passed c

own_plan : (a : Ask) (room n q : ℕ) → None a.checks → Answers (plan_checks [] a.table room) n q
    → Answers (plan_checks a.checks a.table room) n q
unfolding plan_checks
own_plan a room n q passed c = joined a.checks _ n q passed c

pub never_refused : NeverRefused
never_refused a p r was now k P A d s o room =
    let t = a.table in
    let is_due : (planner_of p).stage ≡ due k = ap stage_of s in
    let room' : end t k - start t k ≤ length was = rw s at room in
    let e = answers_only (step_checks a.checks t (planner_of p) (length was)) _ 0 _ 0 A.stepped.answers
    (own_step a (planner_of p) (length was) 0 0 (admitted_none a P d) (step_done t (planner_of p) (length was) o k is_due room')) in
    (e.0, e.1, not_off.1 (not_off_next (admitted_table a P d) (not_off.0 o) (A.stepped.done e.0).1))

-- the words of a step are the front of what it was lent
step_words : {t : Table} {p q : rules.Planner} (was now ws : List ℕ) → rules.Step t p q ws → now ≡ lent ws was
    → take (step_room t p.stage) now ≡ ws
unfolding lent
step_words {t} {p} was now ws s e =
    let size : length ws ≡ step_room t p.stage = s.words.size ∙ sym (ap (step_room t) s.is_due) in
    ap (take (step_room t p.stage)) e ∙ take_at ws _ _ size

-- a fresh planner's steps are document 01's
pub steps_run : {a : Ask} {k : ℕ} {p : Planner} {ws : List ℕ} → Steps a k p ws → rules.Run a.table k (planner_of p) ws
steps_run {a} none = subst (λ (q : rules.Planner). rules.Run a.table zero q []) (sym fresh_is) rules.none
steps_run {a} (more {p = p} {q = q} {was = was} {now = now} s A) =
    let w = A.stepped.done refl in
    let e = step_words was now w.0 w.1 w.2 in
    rules.more (steps_run s) (subst (rules.Step a.table (planner_of p) (planner_of q)) (sym e) w.1)

-- ---- the whole plan

pub whole_is_steps : WholeIsSteps
whole_is_steps a r was now p ws P A z s =
    let w = A.planned.done z in
    let e = plans.plan_only a.table w.0 ws w.1 (planner_of p, steps_run s) in
    let d = P.admissible (plan_passed a.checks P.numbered a.table (length was) (place r) (rw z at A.planned.answers)) in (
      w.2 ∙ ap (λ (vs : List ℕ). lent vs was) e,
      stage_same p.stage Finished (plan_finished d (planner_of p, steps_run s)),
    )

-- the front of what was lent is a whole plan, and there is one at most
pub exactly_one_plan : ExactlyOnePlan
exactly_one_plan a r was now P A d room vs =
    let t = a.table in
    let e = answers_only (plan_checks a.checks t (length was)) _ 0 _ 0 A.planned.answers
    (own_plan a (length was) 0 0 (admitted_none a P d) (plan_done t (length was) room)) in
    let w = A.planned.done e.0 in
    let front : take (hyperperiod t) now ≡ w.0 =
    ap (take (hyperperiod t)) w.2 ∙ lent_take w.0 was (hyperperiod t) (plan_size (admitted_table a P d) w.1) in (
      (λ W. plans.plan_only t vs w.0 W w.1 ∙ sym front),
      (λ q. subst (rules.WholePlan t) (sym (q ∙ front)) w.1),
    )

pub carried : Carried
carried a r was now P A d room =
    let t = a.table in
    let e = answers_only (plan_checks a.checks t (length was)) _ 0 _ 0 A.planned.answers
    (own_plan a (length was) 0 0 (admitted_none a P d) (plan_done t (length was) room)) in
    let w = A.planned.done e.0 in
    (e.0, e.1, (w.0, plan_carries t w.0 (admitted_table a P d) w.1, w.2))

-- ---- standings

pub standings_between : StandingsBetween
standings_between a p r P A z i l =
    let n = standings_passed a.checks P.numbered a.table (planner_of p) (place r) (rw z at A.stood.answers) in
    let d = P.admissible n.0 in
    let o = not_off.0 n.1 in
    rw ((A.stood.done z).0 i l) (standing_above d o i l, standing_below d o i l)

pub promises : Promises
promises = record {
  file_proper = file_proper;
  one_step = step_only;
  one_plan = plan_only;
  one_standings = standings_only;
  fresh_is = fresh_is;
  fresh_not_off = fresh_not_off;
  never_refused = never_refused;
  whole_is_steps = whole_is_steps;
  standings_between = standings_between;
  carried = carried;
  exactly_one_plan = exactly_one_plan;
}
