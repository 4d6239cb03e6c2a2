-- Document 02, #114: a second planner that keeps no last end for a slot. The file holds statements only; `proofs/Plain.antt` proves them.
--
--   PlainPlanner      both planners give the same words, and are refused alike
--
-- The two fills have one contract, `FilledSlots`, and the two whole plans have one, `PlanAnswer`; that each function's answer stands in
-- its relation is proved of the function. `was` is what a lent slice holds before, `plain` and `now` what it holds after the plain one and
-- after the other.
use Rattle.std.specs.Prelude.{◌≡◌, List, ℕ, ◌-◌, Result}
use Rattle.numbers.specs.Lists.{at}
use Rattle.rules.specs.TableFile.{file_table}
use Rattle.rules.specs.Line.{line_first, line_second}
use Rattle.rules.specs.Loads.{start, end}
use Rattle.rules.specs.Interval.{Qualify}
use Rattle.rules.specs.Calls.{file_ask}
use Rattle.table.specs.Columns.{ByRow}
use Rattle.table.specs.declared.refusals.Refusal.{Refusal}
use Rattle.placing.specs.Filled.{FilledSlots}
use Rattle.planner.specs.Answers.{PlanAnswer}
use Rattle.planner.specs.Proper.{Admits}

pub record PlainPlanner : Type 1 where
  -- For every admitted table, every interval, whatever its rows have had, and every load set that qualifies, chosen or not, `fill_plain`
  -- and `fill` leave the same words.
  pub same_words : (f : List ℕ) (k : ℕ) (had x : ℕ → ℕ) (first second was plain now : List ℕ) → Admits (file_ask f)
      → Qualify (file_table f) k had x
      → ByRow (file_table f).rows (line_first (file_table f)) first → ByRow (file_table f).rows (line_second (file_table f)) second
      → FilledSlots (file_table f).rows (at first) (at second) x (end (file_table f) k - start (file_table f) k) was plain
      → FilledSlots (file_table f).rows (at first) (at second) x (end (file_table f) k - start (file_table f) k) was now
      → plain ≡ now
  -- Whatever bytes are handed in, with whatever room, `plain_plan` and `whole_plan` answer with the same number and place and leave the
  -- same words.
  pub same_plan : (f : List ℕ) (r s : Result Unit Refusal) (was plain now : List ℕ) → PlanAnswer (file_ask f) r was plain
      → PlanAnswer (file_ask f) s was now → (r ≡ s) × (plain ≡ now)
