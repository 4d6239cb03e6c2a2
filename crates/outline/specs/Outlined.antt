-- A table on the line, as the code's outline shows it.
--
--   Found t o          o is the outline of the table t, which has none of the faults 4 to 11
--   outline_checks f   1 to 9, 26, 18, 10 and 11, in this order
--   Outlined cs t r    r answers the checks cs, and is what is found of table t where none of them applies
--
-- Only one outline fits a table and its checks (proofs/Outlined, `outlined_only`).
use Rattle.std.specs.Prelude.{◌≡◌, List, ◌++◌, ℕ, ◌≤◌, length, take, Result, IfOk}
use Rattle.numbers.specs.Lists.{at}
use Rattle.rules.specs.Bounds.{max_rows}
use Rattle.rules.specs.Bus.{Table, clockwise, counterclockwise}
use Rattle.rules.specs.TableFile.{file_table}
use Rattle.rules.specs.Line as line
use Rattle.rules.specs.Refusals.{Check, Answers, given_checks, line_checks}
use Rattle.table.specs.Columns.{ByRow}
use Rattle.table.specs.Refusal.{number, place}
use Rattle.table.specs.declared.refusals.Refusal.{Refusal}
use Rattle.outline.specs.declared.Outline.{Outline}
use Rattle.time.specs.Time.{Timed}

pub record Found (t : Table) (o : Outline) : Type 0 where
  pub timed : Timed t o.time
  pub clear : line.HasCuts t
  pub elements : o.elements ≡ t.elements
  pub rows : o.rows ≡ t.rows
  pub cut : o.cut ≡ line.board_cut t clockwise
  pub other : o.other ≡ line.board_cut t counterclockwise
  pub top : o.top ≡ line.line_top t
  pub first : ByRow t.rows (line.line_first t) o.first
  pub second : ByRow t.rows (line.line_second t) o.second
  pub few : o.sets ≤ t.rows
  pub list : line.Sets t (take o.sets o.words)
  pub size : length o.words ≡ max_rows
  pub rest : (k : ℕ) → o.sets ≤ k → at o.words k ≡ 0

abbrev pub outline_checks : List ℕ → List Check
outline_checks f = given_checks f ++ line_checks (file_table f)

pub record Outlined (cs : List Check) (t : Table) (r : Result Outline Refusal) : Type 0 where
  pub answers : Answers cs (number r) (place r)
  pub found : IfOk r (Found t)
