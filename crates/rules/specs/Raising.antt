-- Document 02, #111: raising light rows.
--
--   priced t i c       the table t with row i's cost c
--   least_cost t i      the least cost with which row i is not light
--   raised_cost t i     that of a light row, and the cost of any other row as it is
--   raised t           the table t with these costs, and nothing else changed
--   raised_labelled t   likewise, with its labels
--   raised_file f       the file of that table, in the version of file f
--   raise_checks f room   the verdict's refusals before 13, then 17
--   Raised             what the call that raises answers
--   raise row old new  the program's line of a raised row
--   raise_lines t      its lines of all of them
--   RaisePrinted       what the program prints
use Rattle.std.specs.Prelude.{◌≡◌, ◌≢◌, not, cond, List, [], ◌∷◌, ◌++◌, ℕ, ◌<◌, eqb, length}
use Rattle.numbers.specs.Finite.{lowest}
use Rattle.numbers.specs.Lists.{each}
use Rattle.rules.specs.Bus.{Table, Labelled}
use Rattle.rules.specs.TableFile.{version, file_table, file_labelled, bytes}
use Rattle.rules.specs.Loads.{light}
use Rattle.rules.specs.Refusals.{Check, Answers, short_output, one_ring_checks, given_checks, line_checks, verdict_checks}
use Rattle.rules.specs.Calls.{Call, lent}
use Rattle.rules.specs.Text.{Line, says}
use Rattle.rules.specs.Program.{verdict}

abbrev costing : Table → (ℕ → ℕ) → Table
costing t cost = record {
  elements = t.elements;
  rows = t.rows;
  rings = t.rings;
  cost = cost;
  period = t.period;
  first = t.first;
  second = t.second;
  way = t.way;
}

abbrev pub priced : Table → ℕ → ℕ → Table
priced t i c = costing t (λ j. cond (eqb j i) c (t.cost j))

-- A cost as high as the period always passes.
unfoldable pub least_cost : Table → ℕ → ℕ
least_cost t i = lowest (t.period i) (λ c. not (light (priced t i c) i))

unfoldable pub raised_cost : Table → ℕ → ℕ
raised_cost t i = cond (light t i) (least_cost t i) (t.cost i)

abbrev pub raised : Table → Table
raised t = costing t (raised_cost t)

abbrev pub raised_labelled : Labelled → Labelled
raised_labelled t = record { table = raised t.table; label = t.label }

-- Version and labels are kept.
abbrev pub raised_file : List ℕ → List ℕ
raised_file f = bytes (version f) (raised_labelled (file_labelled f))

-- 1 to 9, 18, 10 and 11; 2 for RB2 too (#112)
abbrev pub before_13 : List ℕ → List Check
before_13 f = one_ring_checks f (given_checks f ++ line_checks (file_table f))

-- The raised file is as long as the file.
unfoldable pub raise_checks : List ℕ → ℕ → List Check
raise_checks f room = before_13 f ++ (short_output (room < length f) ∷ [])

abbrev pub Raised : (file was now : List ℕ) (number place : ℕ) → Type 0
Raised file was now number place =
    Call (raise_checks file (length was)) number place (now ≡ lent (raised_file file) was) (now ≡ was)

-- ---- the program

abbrev pub raise : ℕ → ℕ → ℕ → Line
raise row old new = says "raise" (row ∷ old ∷ new ∷ [])

abbrev pub raise_lines : Table → List Line
raise_lines t = each t.rows (λ i. cond (light t i) (raise i (t.cost i) (least_cost t i) ∷ []) [])

-- A line for each raised row, then the result's verdict line; a refusal before 13 is the only line.
pub data RaisePrinted (f : List ℕ) : List Line → Type 0 where
  refused : (number place : ℕ) → Answers (before_13 f) number place → number ≢ 0 → RaisePrinted f (verdict number place ∷ [])
  raises : (number place : ℕ) → Answers (before_13 f) 0 0 → Answers (verdict_checks (raised_file f)) number place
      → RaisePrinted f (raise_lines (file_table f) ++ (verdict number place ∷ []))
