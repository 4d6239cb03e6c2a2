-- What the planner's calls promise. The file holds statements only; proofs/Promises proves them.
--
--   Steps a k p ws     k steps of a fresh planner at ask a, none refused, write ws, joined in order, and hand back p; a step writes the
--                      front of what it is lent, a word for each slot of its interval
--
-- A call's contract is the relation between what it is given and what it answers (Answers.antt); a promise speaks of every answer that the
-- contract allows, to any proper ask. The calls on a file are asks of its table, and proper (`file_proper`).
use Rattle.std.specs.Prelude.{◌≡◌, ◌↔◌, List, [], ◌++◌, ℕ, zero, suc, ◌≤◌, ◌<◌, pos, neg_ℤ, ◌<ℤ◌, length, take, get_or, ℤ, Result, Ok}
use Rattle.rules.specs.Loads.{hyperperiod, intervals}
use Rattle.rules.specs.Planner.{fresh, Off, WholePlan}
use Rattle.rules.specs.Refusals.{step_room}
use Rattle.rules.specs.Calls.{lent, Ask, file_ask}
use Rattle.table.specs.Refusal.{number, place}
use Rattle.table.specs.declared.refusals.Refusal.{Refusal}
use Rattle.promises.specs.Demands.{Carries}
use Rattle.planner.specs.declared.Stage.TheVariants.{Due, Finished}
use Rattle.planner.specs.declared.Planner.{Planner}
use Rattle.planner.specs.State.{stage_of, planner_of, fresh_planner, after, values}
use Rattle.planner.specs.Answers.{StepAnswer, StandingsAnswer, PlanAnswer}
use Rattle.planner.specs.Proper.{Proper, Admits}

pub data Steps (a : Ask) : ℕ → Planner → List ℕ → Type 0 where
  none : Steps a zero fresh_planner []
  more : {k : ℕ} {p q : Planner} {vs was now : List ℕ} → Steps a k p vs → StepAnswer a p (Ok q) was now
      → Steps a (suc k) q (vs ++ take (step_room a.table (stage_of p.stage)) now)

-- ---- a file's table is a proper ask

abbrev pub FileProper : Type 0
FileProper = (f : List ℕ) → Proper (file_ask f)

-- ---- only one answer fits

abbrev pub OneStep : Type 1
OneStep = (a : Ask) (p : Planner) (r s : Result Planner Refusal) (was now then : List ℕ) → StepAnswer a p r was now → StepAnswer a p s was then
    → (r ≡ s) × (now ≡ then)

abbrev pub OnePlan : Type 1
OnePlan = (a : Ask) (r s : Result Unit Refusal) (was now then : List ℕ) → PlanAnswer a r was now → PlanAnswer a s was then → (r ≡ s) × (now ≡ then)

abbrev pub OneStandings : Type 1
OneStandings = (a : Ask) (p : Planner) (r s : Result (List ℤ) Refusal) → StandingsAnswer a p r → StandingsAnswer a p s → r ≡ s

-- ---- steps

-- A fresh planner is document 01's, and it isn't off.
abbrev pub FreshIs : Type 0
FreshIs = planner_of fresh_planner ≡ fresh

abbrev pub FreshNotOff : Type 1
FreshNotOff = (a : Ask) → Proper a → Admits a → ¬ Off a.table (planner_of fresh_planner)

-- A step on any admitted table, from any due state that isn't off and with room, is never refused; the planner it hands back isn't off.
abbrev pub NeverRefused : Type 1
NeverRefused = (a : Ask) (p : Planner) (r : Result Planner Refusal) (was now : List ℕ) (k : ℕ) → Proper a → StepAnswer a p r was now → Admits a
    → p.stage ≡ Due k → ¬ Off a.table (planner_of p) → step_room a.table (stage_of p.stage) ≤ length was
    → (number r ≡ 0) × (place r ≡ 0) × ¬ Off a.table (planner_of (after p r))

-- The whole plan is what a fresh planner's steps write, joined in order; after the last the planner is finished.
abbrev pub WholeIsSteps : Type 1
WholeIsSteps = (a : Ask) (r : Result Unit Refusal) (was now : List ℕ) (p : Planner) (ws : List ℕ) → Proper a → PlanAnswer a r was now
    → number r ≡ 0 → Steps a (intervals a.table) p ws → (now ≡ lent ws was) × (p.stage ≡ Finished)

-- ---- standings

-- Every standing lies strictly between −h and h.
abbrev pub StandingsBetween : Type 1
StandingsBetween = (a : Ask) (p : Planner) (r : Result (List ℤ) Refusal) → Proper a → StandingsAnswer a p r → number r ≡ 0
    → (i : ℕ) → i < a.table.rows
    → (neg_ℤ (pos (hyperperiod a.table)) <ℤ get_or (values r) i (pos 0)) × (get_or (values r) i (pos 0) <ℤ pos (hyperperiod a.table))

-- ---- demand 3

-- Every table that the verdict admits, with room for h words, gets number 0 and a plan that carries it.
abbrev pub Carried : Type 1
Carried = (a : Ask) (r : Result Unit Refusal) (was now : List ℕ) → Proper a → PlanAnswer a r was now → Admits a → hyperperiod a.table ≤ length was
    → (number r ≡ 0) × (place r ≡ 0) × ((ws : List ℕ) × Carries a.table ws × (now ≡ lent ws was))

-- Exactly one plan meets document 01 (#110): the words that every answer writes are a whole plan, and any whole plan is those words.
abbrev pub ExactlyOnePlan : Type 1
ExactlyOnePlan = (a : Ask) (r : Result Unit Refusal) (was now : List ℕ) → Proper a → PlanAnswer a r was now → Admits a
    → hyperperiod a.table ≤ length was → (ws : List ℕ) → WholePlan a.table ws ↔ (ws ≡ take (hyperperiod a.table) now)

pub record Promises : Type 1 where
  pub file_proper : FileProper
  pub one_step : OneStep
  pub one_plan : OnePlan
  pub one_standings : OneStandings
  pub fresh_is : FreshIs
  pub fresh_not_off : FreshNotOff
  pub never_refused : NeverRefused
  pub whole_is_steps : WholeIsSteps
  pub standings_between : StandingsBetween
  pub carried : Carried
  pub exactly_one_plan : ExactlyOnePlan
