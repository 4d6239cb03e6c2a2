-- What raising light rows promises (#111), and what is found of a file's table. The promises are statements only; `proofs/Costs.antt`,
-- `proofs/Result.antt` and `proofs/Data.antt` prove `RaiseRaises`, `RaisedVerdict` and `DataArrives`.
--
--   RaisedBeside f r   r answers the refusals before 13, and holds the file's table and its raised costs where none of them applies
--   Raises t           what raising the rows of table t does
--   RaisedVerdict     what the verdict on the raised file can be
--   carries ws i a c s in the plan ws, row i's slot a + s carries data: it is among the first c of the row's slots from slot a on
--   DataArrives       of every raised table that is admitted: each job's data moves before its deadline
use Rattle.std.specs.Prelude.{◌≡◌, ◌⊎◌, Bool, ◌&&◌, List, ℕ, ◌+◌, ◌*◌, ◌≤◌, ◌<◌, T, ltb, Result, IfOk}
use Rattle.numbers.specs.Finite.{count}
use Rattle.rules.specs.Bus.{Table}
use Rattle.rules.specs.TableFile.{file_table, file_labelled}
use Rattle.rules.specs.Loads.{hyperperiod, shortest, equal_periods, light}
use Rattle.rules.specs.Planner.{WholePlan}
use Rattle.rules.specs.Refusals.{Answers, verdict_checks}
use Rattle.rules.specs.Raising.{priced, raised_cost, raised, raised_labelled, raised_file, before_13}
use Rattle.table.specs.Sound.{Sound}
use Rattle.table.specs.Columns.{ByRow, Holds, HoldsLabels}
use Rattle.table.specs.Refusal.{number, place}
use Rattle.table.specs.declared.refusals.Refusal.{Refusal}
use Rattle.lags.specs.Lags.{Admissible}
use Rattle.promises.specs.Demands.{endless, moved}
use Rattle.raising.specs.declared.Raising.{Raising}

pub record RaisedBeside (f : List ℕ) (r : Result Raising Refusal) : Type 0 where
  pub answers : Answers (before_13 f) (number r) (place r)
  pub held : IfOk r (λ x. Holds (file_table f) x.given.columns)
  pub labelled : IfOk r (λ x. HoldsLabels (file_labelled f).label x.given.labels)
  pub costs : IfOk r (λ x. ByRow (file_table f).rows (raised_cost (file_table f)) x.cost)

pub record Raises (t : Table) : Type 0 where
  -- No row is light afterwards, so 13 is never given.
  pub passes : (i : ℕ) → i < t.rows → ¬ T (light (raised t) i)
  -- A raised cost is the least with which its row is not light,
  pub least : (i c : ℕ) → i < t.rows → T (light t i) → c < raised_cost t i → T (light (priced t i c) i)
  -- more than the cost was, and at most the period.
  pub more : (i : ℕ) → i < t.rows → T (light t i) → t.cost i < raised_cost t i
  pub within : (i : ℕ) → i < t.rows → raised_cost t i ≤ t.period i
  -- Any other row's cost stays.
  pub stays : (i : ℕ) → ¬ T (light t i) → raised_cost t i ≡ t.cost i
  -- So do h, L, and whether all periods are equal.
  pub hyper : hyperperiod (raised t) ≡ hyperperiod t
  pub interval : shortest (raised t) ≡ shortest t
  pub equal : equal_periods (raised t) ≡ equal_periods t

abbrev pub RaiseRaises : Type 0
RaiseRaises = (t : Table) → Sound t → Raises t

-- Where nothing before 13 is refused of a file, the raised file holds the raised table, and all that can be refused of it is 14.
abbrev pub RaisedVerdict : Type 0
RaisedVerdict =
    (f : List ℕ) → Answers (before_13 f) 0 0
    → (file_labelled (raised_file f) ≡ raised_labelled (file_labelled f))
    × ((number place : ℕ) → Answers (verdict_checks (raised_file f)) number place → (number ≡ 0) ⊎ (number ≡ 14))

abbrev pub carries : List ℕ → (i a c s : ℕ) → Bool
carries ws i a c s = endless ws i (a + s) && ltb (moved ws i a (a + s)) c

-- With the plan repeated for ever, as many slots of each job carry data before its deadline as its cost was before it was raised.
abbrev pub DataArrives : Type 0
DataArrives =
    (t : Table) (ws : List ℕ) → Sound t → Admissible (raised t) → WholePlan (raised t) ws
    → (i j : ℕ) → i < t.rows → count (t.period i) (carries ws i (j * t.period i) (t.cost i)) ≡ t.cost i
