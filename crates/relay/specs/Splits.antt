-- What is split of a file.
--
--   Splits f r s       s answers what is checked of file f's table before it is split at the relay r, and holds the split table where
--                      nothing is refused
use Rattle.std.specs.Prelude.{List, ℕ, Result, IfOk}
use Rattle.rules.specs.TableFile.{file_table}
use Rattle.rules.specs.Refusals.{Answers, split_checks}
use Rattle.table.specs.Columns.{Holds}
use Rattle.table.specs.Refusal.{number, place}
use Rattle.table.specs.declared.columns.Columns.{Columns}
use Rattle.table.specs.declared.refusals.Refusal.{Refusal}
use Rattle.rules.specs.Relay.{split}

pub record Splits (f : List ℕ) (r : ℕ) (s : Result Columns Refusal) : Type 0 where
  pub answers : Answers (split_checks f r) (number s) (place s)
  pub passed : IfOk s (λ c. Holds (split (file_table f) r) c)
