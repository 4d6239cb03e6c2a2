-- The checks of a table with labels within limits, past those of a table as it is given: 10 and 11, 21 and 22, 13 and 14.
use Rattle.std.specs.Prelude.{List, ◌++◌, ℕ}
use Rattle.rules.specs.Bus.{Labelled}
use Rattle.rules.specs.Refusals.{Check, line_checks, limit_checks, bound_checks}

abbrev pub within_checks : Labelled → (our their : ℕ) → List Check
within_checks t our their = line_checks t.table ++ (limit_checks t our their ++ bound_checks t.table)
