-- The three demands, each clause beside the sentence that it stands for. The file holds statements only; `proofs/Demands.antt` proves
-- `Demands`. docs/LEGEND.md says how to read them.
--
--   Answered cs        some number and place answer the checks cs
--   Demand1           every input is answered, and a refusal changes nothing
--   Demand2           verdict, loads, sets, shared segments and standings are the documents', and tables are read and written back
--   Demand3           every admitted table gets a plan that carries it
--
-- Each call's contract (`Read`, `Written`, `Met`, `Crowded`, `JudgedBy`, `Listed`, `PlanAnswer`, `StepAnswer`, `StandingsAnswer`,
-- `MovedInPlace`, `Raised`) relates what the call is given to what it answers. That the call returns, and that its answer stands in this
-- relation, is proved of its function; a clause below speaks of every answer that the contract allows. `was` and `now` are what a lent
-- slice holds before and after, `f` is the file. A clause about an ask `a` speaks of the calls on a file, of those with limits (#108) and
-- of those with a relay (#113) alike.
use Rattle.std.specs.Prelude.{◌≡◌, ◌⊎◌, ◌↔◌, ◌≢◌, List, ℕ, ◌+◌, ◌-◌, ◌*◌, ◌≤◌, ◌<◌, ℤ, pos, length, take, get_or, Result}
use Rattle.numbers.specs.Lists.{at}
use Rattle.rules.specs.Bounds.{max_rows}
use Rattle.rules.specs.Bus.{shared, common}
use Rattle.rules.specs.TableFile.{header_size, row_size, row_numbers, rings_of, file_table}
use Rattle.rules.specs.Line.{Sets, set_at}
use Rattle.rules.specs.Loads.{start, end}
use Rattle.rules.specs.Interval.{QualifyByLags}
use Rattle.rules.specs.Parties.{OwnRowsOnly}
use Rattle.rules.specs.Relay.{split}
use Rattle.rules.specs.Planner as rules
use Rattle.rules.specs.Refusals.{
  Check,
  Answers,
  reader_checks,
  version_1_checks,
  writer_checks,
  shared_checks,
  set_checks,
  verdict_checks,
  limited_checks,
  relayed_line_checks,
  relayed_checks,
  sets_checks,
  plan_checks,
  step_checks,
  standings_checks,
}
use Rattle.rules.specs.Calls.{lent, no_mark, Read, ReadVersion1, Written, Met, Crowded, Admitted, Listed, Ask, file_ask, line_ask}
use Rattle.rules.specs.Raising.{raised_file, raise_checks, Raised}
use Rattle.table.specs.Refusal.{number, place}
use Rattle.table.specs.declared.refusals.Refusal.{Refusal}
use Rattle.verdict.specs.declared.Admitted.{Admitted as Values}
use Rattle.verdict.specs.Verdict.{cut_of, other_of, interval_of, hyper_of, load_of, sets_of, JudgedBy, IsVerdict}
use Rattle.verdict.specs.Demand.{Unrefused}
use Rattle.promises.specs.Steps.{Serves, Served}
use Rattle.planner.specs.declared.Stage.TheVariants.{Due}
use Rattle.planner.specs.declared.Planner.{Planner}
use Rattle.planner.specs.State.{planner_of, after, values as values_of}
use Rattle.planner.specs.Answers.{StepAnswer, StandingsAnswer, PlanAnswer}
use Rattle.planner.specs.Proper.{Proper, Admits}
use Rattle.planner.specs.Promises.{FileProper, Steps, StandingsBetween, NeverRefused, WholeIsSteps, Carried, ExactlyOnePlan}
use Rattle.limited.specs.Promises.{LimitedProper, SamePlan}
use Rattle.relay.specs.Clear.{RelayClear}
use Rattle.relay_jobs.specs.Jobs.{TwoHeld}
use Rattle.relayed.specs.Without.{AsWithout, SameTable}
use Rattle.relayed.specs.Promises as relayed
use Rattle.relayed.specs.Promises.{RelayedProper, RelayedCarried}
use Rattle.planner.specs.InPlace.{joined, MovedInPlace}
use Rattle.raising.specs.Raises.{RaiseRaises, RaisedVerdict, DataArrives}

abbrev pub Answered : List Check → Type 0
Answered cs = (number : ℕ) × (place : ℕ) × Answers cs number place

pub record Demand1 : Type 1 where
  -- Whatever bytes, numbers and planner are handed in, each call has a number and a place to answer with: those of the first refusal in
  -- its list that applies, or 0 and 0 where none does.
  pub read : (f : List ℕ) (room : ℕ) → Answered (reader_checks f room)
  pub read_version_1 : (f : List ℕ) (room : ℕ) → Answered (version_1_checks f room)
  pub written : (mark' : List ℕ) (version' elements rows : ℕ) (xs : List ℕ) (room : ℕ)
      → Answered (writer_checks mark' version' elements rows xs room)
  pub met : (f : List ℕ) (i j : ℕ) → Answered (shared_checks f i j)
  pub crowded : (f : List ℕ) (k : ℕ) → Answered (set_checks f k)
  pub judged : (f : List ℕ) → Answered (verdict_checks f)
  pub listed : (f : List ℕ) (room : ℕ) → Answered (sets_checks (line_ask f).checks (file_table f) room)
  pub planned : (f : List ℕ) (room : ℕ) → Answered (plan_checks (verdict_checks f) (file_table f) room)
  pub stepped : (f : List ℕ) (p : rules.Planner) (room : ℕ) → Answered (step_checks (verdict_checks f) (file_table f) p room)
  pub stood : (f : List ℕ) (p : rules.Planner) → Answered (standings_checks (verdict_checks f) (file_table f) p)
  -- So have verdict, whole plan and step with limits (#108), whatever the limits are.
  pub judged_limited : (f : List ℕ) (our their : ℕ) → Answered (limited_checks f our their)
  pub planned_limited : (f : List ℕ) (our their room : ℕ) → Answered (plan_checks (limited_checks f our their) (file_table f) room)
  pub stepped_limited : (f : List ℕ) (our their : ℕ) (p : rules.Planner) (room : ℕ)
      → Answered (step_checks (limited_checks f our their) (file_table f) p room)
  -- So have verdict, list of sets, whole plan, step and standings with a relay (#113), whatever number the relay is.
  pub judged_relayed : (f : List ℕ) (r : ℕ) → Answered (relayed_checks f r)
  pub listed_relayed : (f : List ℕ) (r room : ℕ) → Answered (sets_checks (relayed_line_checks f r) (split (file_table f) r) room)
  pub planned_relayed : (f : List ℕ) (r room : ℕ) → Answered (plan_checks (relayed_checks f r) (split (file_table f) r) room)
  pub stepped_relayed : (f : List ℕ) (r : ℕ) (p : rules.Planner) (room : ℕ)
      → Answered (step_checks (relayed_checks f r) (split (file_table f) r) p room)
  pub stood_relayed : (f : List ℕ) (r : ℕ) (p : rules.Planner) → Answered (standings_checks (relayed_checks f r) (split (file_table f) r) p)
  -- So has raising (#111).
  pub raised : (f : List ℕ) (room : ℕ) → Answered (raise_checks f room)
  -- Only one number and place do.
  pub one : (cs : List Check) (m n p q : ℕ) → Answers cs m p → Answers cs n q → (m ≡ n) × (p ≡ q)
  -- A refusal leaves lent output unchanged and hands back the planner it was given; any other returned number is then 0.
  pub read_refused : (f was now : List ℕ) (number place : ℕ) (mark' : List ℕ) (version' elements rows : ℕ)
      → Read f was now number place mark' version' elements rows ⊎ ReadVersion1 f was now number place mark' version' elements rows
      → number ≢ 0 → (mark' ≡ no_mark) × (version' ≡ 0) × (elements ≡ 0) × (rows ≡ 0) × (now ≡ was)
  pub write_refused : (mark' : List ℕ) (version' elements rows : ℕ) (xs was now : List ℕ) (number place : ℕ)
      → Written mark' version' elements rows xs was now number place → number ≢ 0 → now ≡ was
  pub met_refused : (f : List ℕ) (i j number place word : ℕ) → Met f i j number place word → number ≢ 0 → word ≡ 0
  pub crowd_refused : (f : List ℕ) (k number place rows segments : ℕ) → Crowded f k number place rows segments → number ≢ 0
      → (rows ≡ 0) × (segments ≡ 0)
  pub verdict_refused : (a : Ask) (r : Result Values Refusal) → JudgedBy a.checks a.table r → number r ≢ 0
      → (cut_of r ≡ 0) × (other_of r ≡ 0) × (interval_of r ≡ 0) × (hyper_of r ≡ 0) × (load_of r ≡ 0) × (sets_of r ≡ 0)
  pub list_refused : (a : Ask) (was now : List ℕ) (number place sets : ℕ) → Listed a was now number place sets → number ≢ 0
      → (sets ≡ 0) × (now ≡ was)
  pub plan_refused : (a : Ask) (r : Result Unit Refusal) (was now : List ℕ) → PlanAnswer a r was now → number r ≢ 0 → now ≡ was
  pub step_refused : (a : Ask) (p : Planner) (r : Result Planner Refusal) (was now : List ℕ) → StepAnswer a p r was now
      → number r ≢ 0 → (after p r ≡ p) × (now ≡ was)
  pub standings_refused : (a : Ask) (p : Planner) (r : Result (List ℤ) Refusal) → StandingsAnswer a p r → number r ≢ 0
      → (i : ℕ) → i < max_rows → get_or (values_of r) i (pos 0) ≡ pos 0
  pub raise_refused : (f was now : List ℕ) (number place : ℕ) → Raised f was now number place → number ≢ 0 → now ≡ was

pub record Demand2 : Type 1 where
  -- A table is admitted exactly if none of the refusals listed for the verdict applies, and with limits or a relay likewise;
  pub admits : (f : List ℕ) (r : Result Values Refusal) → IsVerdict f r → (number r ≡ 0) ↔ Unrefused (verdict_checks f)
  pub admits_limited : (f : List ℕ) (our their : ℕ) (r : Result Values Refusal) → JudgedBy (limited_checks f our their) (file_table f) r
      → (number r ≡ 0) ↔ Unrefused (limited_checks f our their)
  pub admits_relayed : (f : List ℕ) (r : ℕ) (v : Result Values Refusal) → JudgedBy (relayed_checks f r) (split (file_table f) r) v
      → (number v ≡ 0) ↔ Unrefused (relayed_checks f r)
  -- then the cut of each ring, L, h, reported load and number of sets are the documents'.
  pub values : (a : Ask) (r : Result Values Refusal) → JudgedBy a.checks a.table r → number r ≡ 0
      → Admitted a.table (cut_of r) (other_of r) (interval_of r) (hyper_of r) (load_of r) (sets_of r)
  -- What is said of a party depends on its own rows, the element count and its limit alone (#108).
  pub own_rows_only : OwnRowsOnly
  -- No row goes through a relay once the table is split there, so each ring has a cut and 10 doesn't occur (#113).
  pub relay_clear : RelayClear
  -- A relay that no row goes through splits nothing, and the answer is that of the verdict without.
  pub as_without : AsWithout
  pub same_table : SameTable
  -- The list of sets is the document's list of the overlap sets.
  pub sets : (a : Ask) (was now : List ℕ) (number place sets : ℕ) → Listed a was now number place sets → number ≡ 0
      → (ws : List ℕ) × Sets a.table ws × (sets ≡ length ws) × (now ≡ lent ws was)
  -- Two rows meet on the segments that both use, and the rows of an overlap set on those that all of them use (#102).
  pub met : (f : List ℕ) (i j number place word : ℕ) → Met f i j number place word → number ≡ 0 → word ≡ shared (file_table f) i j
  pub crowded : (f : List ℕ) (k number place rows segments : ℕ) → Crowded f k number place rows segments → number ≡ 0
      → (ws : List ℕ) × Sets (file_table f) ws × (k < length ws) × (rows ≡ at ws k) × (segments ≡ common (file_table f) (set_at ws k))
  -- A step is the document's: its loads are the greatest that qualify, its words are the loads' slots, and its totals are the slots had.
  pub steps : (a : Ask) (p : Planner) (r : Result Planner Refusal) (was now : List ℕ) → StepAnswer a p r was now → number r ≡ 0
      → (ws : List ℕ) × rules.Step a.table (planner_of p) (planner_of (after p r)) ws × (now ≡ lent ws was)
  -- Loads qualify exactly if each is the row's lag rounded down or up, and so the sum over each set, which fits the interval.
  pub lags : QualifyByLags
  -- Every standing is total × h − (h / period) × cost × slot, 0 past the last row, and lies strictly between −h and h.
  pub standings : (a : Ask) (p : Planner) (r : Result (List ℤ) Refusal) → StandingsAnswer a p r → number r ≡ 0
      → ((i : ℕ) → i < a.table.rows → get_or (values_of r) i (pos 0) ≡ rules.standing a.table (planner_of p) i)
      × ((i : ℕ) → a.table.rows ≤ i → i < max_rows → get_or (values_of r) i (pos 0) ≡ pos 0)
  pub between : StandingsBetween
  -- A file of either mark and version that passes the reader's checks, with room, is read; what was read is written with its mark in its
  -- version, with room, as it stood in the file.
  pub read_back : (f was now was' now' : List ℕ) (number place : ℕ) (mark' : List ℕ) (version' elements rows number' place' : ℕ)
      → ((i : ℕ) → at f i < 256) → Unrefused (reader_checks f (length was)) → length f ≤ length was'
      → Read f was now number place mark' version' elements rows
      → Written mark' version' elements rows (take (row_numbers * rows) now) was' now' number' place'
      → (number ≡ 0) × (number' ≡ 0) × (take (length f) now' ≡ f)
  -- Rows that pass the writer's checks, with room, are written; what was written is read, with room, as it stood in the slice.
  pub write_back : (mark' : List ℕ) (version' elements rows : ℕ) (xs was now was' now' : List ℕ) (number place number' place' : ℕ)
      (mark'' : List ℕ) (version'' elements' rows' : ℕ)
      → Unrefused (writer_checks mark' version' elements rows xs (length was)) → row_numbers * rows ≤ length was'
      → Written mark' version' elements rows xs was now number place
      → Read (take (header_size + row_size (rings_of mark') version' * rows) now) was' now' number' place' mark'' version'' elements' rows'
      → (number ≡ 0) × (number' ≡ 0) × (mark'' ≡ mark') × (version'' ≡ version') × (elements' ≡ elements) × (rows' ≡ rows)
      × (take (length xs) now' ≡ xs)
  -- Raising makes each light row's cost the least that passes and changes nothing else (#111), and writes the file of that table;
  pub raises : RaiseRaises
  pub raised : (f was now : List ℕ) (number place : ℕ) → Raised f was now number place → number ≡ 0 → now ≡ lent (raised_file f) was
  -- of which nothing but 14 can be refused.
  pub raised_verdict : RaisedVerdict

pub record Demand3 : Type 1 where
  -- The clauses about proper asks speak of the calls on a file, of those with limits (#108), and of those with a relay (#113), where rows
  -- are split rows.
  pub file_proper : FileProper
  pub limited_proper : LimitedProper
  pub relayed_proper : RelayedProper
  -- Every table that the verdict admits gets, with room for h words, a whole plan that carries it: rows that share a segment never share a
  -- slot, at every interval's end each row has had its share, and every job gets exactly its cost before its deadline, for ever.
  pub carried : Carried
  -- Exactly one plan meets document 01: the words of the whole plan are one, and any that is one is those words.
  pub exactly_one_plan : ExactlyOnePlan
  -- With limits it is the same plan: limits refuse, and choose nothing.
  pub same_plan : SamePlan
  -- The whole plan is what a fresh planner's steps write, joined in order.
  pub whole_is_steps : WholeIsSteps
  -- A step on any admitted table, from any due state that isn't off and with room, is never refused; the planner handed back isn't off.
  pub never_refused : NeverRefused
  -- A planner moved on where it is kept gives the same answers as a step, and is then the planner after it.
  pub in_place : (f : List ℕ) (p q : Planner) (a : Result Unit Refusal) (r : Result Planner Refusal) (was now then : List ℕ)
      → MovedInPlace f p q a was now
      → StepAnswer (file_ask f) p r was then → (joined q a ≡ r) × (q ≡ after p r) × (now ≡ then)
  -- Each step keeps rows that share a segment apart, adds to each total the slots that the row moves in, and brings each row to its share.
  pub step_serves : (a : Ask) (p : Planner) (r : Result Planner Refusal) (was now : List ℕ) (k : ℕ) → Proper a → StepAnswer a p r was now
      → number r ≡ 0 → p.stage ≡ Due k
      → Serves a.table (start a.table k) (end a.table k) (planner_of p) (planner_of (after p r))
      (take (end a.table k - start a.table k) now)
  -- So do the first steps of a fresh planner together.
  pub first_steps : (a : Ask) (k : ℕ) (p : Planner) (ws : List ℕ) → Proper a → Admits a → Steps a k p ws
      → Served a.table k (planner_of p) ws
  -- With a relay (#113) rows that aren't split get each job before its deadline, as above. A split row's job moves whole to the relay in
  -- its own period and whole from there in the next, so all its data arrives within two periods of its arrival. The relay holds at most
  -- two jobs of a row, whole or in part, and two are held in one of the cases. In the very first period a second half's slots carry no
  -- data.
  pub relayed_carried : RelayedCarried
  pub two_held : TwoHeld
  -- With a relay that no row goes through it is the same plan.
  pub unused_relay : relayed.SamePlan
  -- In the plan of a raised table the first slots of a job, as many as its cost was, all come before its deadline (#111).
  pub data_arrives : DataArrives

pub record Demands : Type 1 where
  pub first : Demand1
  pub second : Demand2
  pub third : Demand3
