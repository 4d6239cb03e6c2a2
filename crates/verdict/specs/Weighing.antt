-- A table's rows and sets weighed, once its time, its line and its rates are found.
--
--   RowsWeighed t i xs     xs are the rates of table t's rows, and i is its lowest light row, their number where none is
--   Weighable t n i c top starts ends xs
--                          table t has n rows, so weighed; c is its time, its line ends at top, starts and ends are its rows' ends there
--   Weighs t w             w answers 13 and 14 of table t, and has the reported load and the number of sets where neither applies
use Rattle.std.specs.Prelude.{◌≡◌, List, ℕ, length, Result, IfOk}
use Rattle.numbers.specs.Finite.{lowest}
use Rattle.rules.specs.Bus.{Table}
use Rattle.rules.specs.Line as line
use Rattle.rules.specs.Loads as loads
use Rattle.rules.specs.Refusals.{Answers, bound_checks}
use Rattle.table.specs.Columns.{ByRow}
use Rattle.table.specs.Refusal.{number, place}
use Rattle.table.specs.declared.refusals.Refusal.{Refusal}
use Rattle.time.specs.Time.{Timed}
use Rattle.time.specs.declared.Time.{Time}
use Rattle.verdict.specs.declared.Loaded.{Loaded}

pub record RowsWeighed (t : Table) (light : ℕ) (xs : List ℕ) : Type 0 where
  pub rate : ByRow t.rows (loads.rate t) xs
  pub light_is : light ≡ lowest t.rows (loads.light t)

pub record Weighable (t : Table) (n light : ℕ) (c : Time) (top : ℕ) (starts ends xs : List ℕ) : Type 0 where
  pub rows_is : n ≡ t.rows
  pub weighed : RowsWeighed t light xs
  pub timed : Timed t c
  pub clear : line.HasCuts t
  pub top_is : top ≡ line.line_top t
  pub first : ByRow t.rows (line.line_first t) starts
  pub second : ByRow t.rows (line.line_second t) ends

pub record Weighs (t : Table) (w : Result Loaded Refusal) : Type 0 where
  pub answers : Answers (bound_checks t) (number w) (place w)
  pub done : IfOk w (λ v. (ws : List ℕ) × line.Sets t ws × (v.sets ≡ length ws) × (v.load ≡ loads.reported t ws))
