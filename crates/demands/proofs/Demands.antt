-- The three demands, proved of every answer that the calls' contracts allow.
use mathlib.Core.Path.{◌≡◌, refl, sym, ap, ◌∙◌, subst}
use mathlib.Core.Logic.{⊎_elim, ◌≢◌}
use Prim.Native.Nat.{ℕ, ◌+◌, ◌-◌, ◌*◌}
use native.Mathlib.Omega.{arith}
use lib.ListN.{length, take}
use Rattle.rules.specs.TableFile.{header_size, row_size, row_numbers, version, rings_of, file_rings, file_table}
use Rattle.rules.specs.Loads.{start, end}
use Rattle.rules.specs.Planner as rules
use Rattle.rules.specs.Planner.{Off}
use Rattle.rules.specs.Refusals.{Answers, reader_checks, writer_checks, step_checks}
use Rattle.rules.specs.Calls.{Ask, file_ask, limited_ask, relayed_ask}
use Rattle.rules.proofs.Answers.{None, Numbered, answers_only, position_none, none_of, none_left, none_right, numbered_join}
use Rattle.rules.proofs.Calls.{lent_take, call_must}
use Rattle.rules.proofs.Lags.{qualify_by_lags}
use Rattle.table.proofs.Faults.{passed_none}
use Rattle.round_trip.proofs.RoundTrip.{rings_front, marked_own, read_none, written_none, written_sound}
use Rattle.round_trip.proofs.RoundTrip.{read_then_written, written_then_read}
use Rattle.rules.proofs.Parties.{own_rows_only}
use Rattle.verdict.proofs.Judging.{admits_by, demand_2}
use Rattle.limited.proofs.Checked.{limited_numbered}
use Rattle.promises.specs.Steps.{Serves}
use Rattle.promises.proofs.Steps.{step_serves, run_serves}
use Rattle.std.specs.Prelude.{Result, Ok, Err}
use Rattle.table.specs.Refusal.{number, place}
use Rattle.table.specs.declared.refusals.Refusal.{Refusal}
use Rattle.planner.specs.declared.Planner.{Planner}
use Rattle.planner.specs.State.{stage_of, planner_of, after}
use Rattle.planner.proofs.MovedOnly.{moved_in_place_as_step}
use Rattle.planner.proofs.Asks.{file_proper}
use Rattle.planner.proofs.Promises.{admitted_table, steps_run, standings_between, never_refused, whole_is_steps, carried, exactly_one_plan}
use Rattle.limited.proofs.Promises.{limited_proper, same_plan}
use Rattle.relay.proofs.Clear.{relay_clear}
use Rattle.relay_jobs.proofs.Jobs.{two_held}
use Rattle.relayed.proofs.Checked.{relayed_numbered}
use Rattle.relayed.proofs.Without.{as_without, same_table}
use Rattle.relayed.proofs.Promises as relayed
use Rattle.relayed.proofs.Promises.{relayed_proper, relayed_carried}
use Rattle.raising.proofs.Costs.{raise_raises}
use Rattle.raising.proofs.Result.{raised_verdict}
use Rattle.raising.proofs.Data.{data_arrives}
use Rattle.demands.specs.Demands.{Demand1, Demand2, Demand3, Demands}
use Rattle.demands.proofs.Answered.{
  read_answered,
  version_1_answered,
  written_answered,
  met_answered,
  crowded_answered,
  judged_answered,
  limited_answered,
  relayed_answered,
  relayed_listed_answered,
  listed_answered,
  planned_answered,
  stepped_answered,
  stood_answered,
  raised_answered,
}

-- ---- demand 1

-- a refused step leaves the planner as it was
unmoved : (p : Planner) (r : Result Planner Refusal) → number r ≢ 0 → after p r ≡ p
unmoved p (Ok q) h = absurd (h refl)
unmoved p (Err e) h = refl

first : Demand1
first = record {
  read = read_answered;
  read_version_1 = version_1_answered;
  written = written_answered;
  met = met_answered;
  crowded = crowded_answered;
  judged = judged_answered;
  listed = listed_answered;
  planned = λ f. planned_answered (file_ask f) (file_proper f) (judged_answered f);
  stepped = λ f. stepped_answered (file_ask f) (file_proper f) (judged_answered f);
  stood = λ f. stood_answered (file_ask f) (file_proper f) (judged_answered f);
  judged_limited = limited_answered;
  planned_limited = λ f our their.
      planned_answered (limited_ask f our their) (limited_proper f our their) (limited_answered f our their);
  stepped_limited = λ f our their.
      stepped_answered (limited_ask f our their) (limited_proper f our their) (limited_answered f our their);
  judged_relayed = relayed_answered;
  listed_relayed = relayed_listed_answered;
  planned_relayed = λ f r. planned_answered (relayed_ask f r) (relayed_proper f r) (relayed_answered f r);
  stepped_relayed = λ f r. stepped_answered (relayed_ask f r) (relayed_proper f r) (relayed_answered f r);
  stood_relayed = λ f r. stood_answered (relayed_ask f r) (relayed_proper f r) (relayed_answered f r);
  raised = raised_answered;
  one = answers_only;
  read_refused = λ f was now number place mark' version' elements rows c h. ⊎_elim (λ r. r.refused h) (λ r. r.refused h) c;
  write_refused = λ mark' version' elements rows xs was now number place c h. c.refused h;
  met_refused = λ f i j number place word c h. c.refused h;
  crowd_refused = λ f k number place rows segments c h. c.refused h;
  verdict_refused = λ a r c h. c.refused h;
  list_refused = λ a was now number place sets c h. c.refused h;
  plan_refused = λ a r was now c h. c.planned.refused h;
  step_refused = λ a p r was now c h. (unmoved p r h, (c.stepped.refused h).1);
  standings_refused = λ a p r c h. c.stood.refused h;
  raise_refused = λ f was now number place c h. c.refused h;
}

-- ---- demand 2

second : Demand2
second = record {
  admits = demand_2;
  admits_limited = λ f our their. admits_by (limited_numbered f our their);
  admits_relayed = λ f r. admits_by (relayed_numbered f r);
  own_rows_only = own_rows_only;
  relay_clear = relay_clear;
  as_without = as_without;
  same_table = same_table;
  values = λ a r c h. c.done h;
  sets = λ a was now number place sets c h. c.done h;
  met = λ f i j number place word c h. c.done h;
  crowded = λ f k number place rows segments c h. c.done h;
  steps = λ a p r was now c h. c.stepped.done h;
  lags = qualify_by_lags;
  standings = λ a p r c h. c.stood.done h;
  between = standings_between;
  read_back = λ f was now was' now' number place m v M n number' place' b u l R W.
      let N = position_none (reader_checks f (length was)) u in
      let z = call_must N R in
      let long : length f ≡ header_size + row_size (file_rings f) (version f) * (file_table f).rows =
      (passed_none f (read_none f (length was) N)).size in
      let size : length f ≡ header_size + row_size (rings_of m) v * n =
      rw (ap rings_of z.2.0 ∙ rings_front f, z.2.1, z.2.3) long in
      let w = read_then_written f was now place m v M n was' now' number' place' b (rw z.0 at R) (rw size at l) W in
      (z.0, w.0, ap (λ (k : ℕ). take k now') size ∙ w.2);
  write_back = λ m v M n xs was now was' now' number place number' place' m' v' M' n' u l W R.
      let N = position_none (writer_checks m v M n xs (length was)) u in
      let z = call_must N W in
      let w = written_then_read m v M n xs was now place was' now' number' place' m' v' M' n' (rw z.0 at W) l R in
      let k = written_none m v M n xs (length was) N in
      let size : length xs ≡ row_numbers * n = (written_sound (rings_of m) v M n xs (marked_own k.0).0 k.1).1 in
      (z.0, w.0, w.2, w.3, w.4, w.5, ap (λ (k : ℕ). take k now') size ∙ w.6);
  raises = raise_raises;
  raised = λ f was now number place c h. c.done h;
  raised_verdict = raised_verdict;
}

-- ---- demand 3

step_passed : (a : Ask) (p : rules.Planner) (room place : ℕ) → Numbered a.checks
    → Answers (step_checks a.checks a.table p room) 0 place → None a.checks × ¬ Off a.table p
unfolding step_checks Numbered None
step_passed a p room place N c =
    let n = none_of (step_checks a.checks a.table p room) place (numbered_join a.checks _ N (omega arith)) c in
    (none_left a.checks _ n, (none_right a.checks _ n).0)

third : Demand3
third = record {
  file_proper = file_proper;
  limited_proper = limited_proper;
  relayed_proper = relayed_proper;
  carried = carried;
  exactly_one_plan = exactly_one_plan;
  same_plan = same_plan;
  whole_is_steps = whole_is_steps;
  never_refused = never_refused;
  in_place = λ f p q a r was now then m c. moved_in_place_as_step f p q a r was now then m c;
  step_serves = λ a p r was now k P c z s.
      let t = a.table in
      let n = step_passed a (planner_of p) (length was) (place r) P.numbered (rw z at c.stepped.answers) in
      let w = c.stepped.done z in
      let l : ℕ = end t k - start t k in
      let S = step_serves t (planner_of p) (planner_of (after p r)) k w.0 (P.admissible n.0) n.1 (ap stage_of s) w.1 in
      let e : take l now ≡ w.0 = ap (take l) w.2 ∙ lent_take w.0 was l (omega (arith, S.size)) in
      subst (Serves t (start t k) (end t k) (planner_of p) (planner_of (after p r))) (sym e) S;
  first_steps = λ a k p ws P A s. run_serves a.table k (planner_of p) ws (admitted_table a P A) (steps_run s);
  relayed_carried = relayed_carried;
  two_held = two_held;
  unused_relay = relayed.same_plan;
  data_arrives = data_arrives;
}

pub demands : Demands
demands = record { first = first; second = second; third = third }
