-- A table analysed: its outline, its rows' rates and its reported load, or a refusal.
--
--   Accepted t a       a is the analysis of the table t, which is admitted
--   Rated t o i xs     o is the outline of the table t, which 10 and 11 don't refuse, xs are its rows' rates and i is the lowest light row
--   table_checks t     10 to 14, in their order
--   Analysed cs t a    a answers the checks cs, and is what is found of table t where none of them applies
--
-- Only one analysis fits a table and its checks (proofs/Analysing, `analysed_only`).
use Rattle.std.specs.Prelude.{◌≡◌, List, ◌++◌, ℕ, take, Result, Ok, IfOk}
use Rattle.rules.specs.Bus.{Table}
use Rattle.rules.specs.Loads as loads
use Rattle.rules.specs.Refusals.{Check, Answers, line_checks, bound_checks}
use Rattle.table.specs.Columns.{ByRow}
use Rattle.table.specs.Refusal.{number, place}
use Rattle.table.specs.declared.refusals.Refusal.{Refusal}
use Rattle.outline.specs.declared.Outline.{Outline}
use Rattle.outline.specs.Outlined.{Found, Outlined}
use Rattle.lags.specs.Lags.{Admissible}
use Rattle.verdict.specs.declared.Analysis.{Analysis}
use Rattle.verdict.specs.Weighing.{RowsWeighed}

pub record Accepted (t : Table) (a : Analysis) : Type 0 where
  pub outline : Found t a.outline
  pub admissible : Admissible t
  pub rate : ByRow t.rows (loads.rate t) a.rate
  pub load : a.load ≡ loads.reported t (take a.outline.sets a.outline.words)

pub record Rated (t : Table) (o : Outline) (light : ℕ) (xs : List ℕ) : Type 0 where
  pub outlined : Outlined (line_checks t) t (Ok o)
  pub weighed : RowsWeighed t light xs

abbrev pub table_checks : Table → List Check
table_checks t = line_checks t ++ bound_checks t

pub record Analysed (cs : List Check) (t : Table) (a : Result Analysis Refusal) : Type 0 where
  pub answers : Answers cs (number a) (place a)
  pub found : IfOk a (Accepted t)
