-- What is promised of the file of a live table's rows (#109). The proof stands in proofs/Given.
--
--   RowsAreGiven     a file that is written passes 1 to 9 and 18, and its hyperperiod is 4096 slots at most: the verdict on it has only
--                      10, 13 and 14 left to find
use Rattle.std.specs.Prelude.{ℕ, ◌≤◌, List}
use Rattle.rules.specs.Bounds.{max_slots}
use Rattle.rules.specs.TableFile.{file_table, bytes}
use Rattle.rules.specs.Loads.{hyperperiod}
use Rattle.rules.specs.Refusals.{Answers, given_checks}
use Rattle.rules.specs.Live.{Live, InOrder, present, Filed}

abbrev pub RowsAreGiven : Type 0
RowsAreGiven =
    (v : ℕ) (l : Live) (was now : List ℕ) (place : ℕ) → InOrder l → Filed v l was now 0 place
    → Answers (given_checks (bytes v (present l))) 0 0 × (hyperperiod (file_table (bytes v (present l))) ≤ max_slots)
