-- A table laid on its line.
--
--   table_with g c      the table that the columns c hold, but with the costs g
--   Lies t l           l is the layout of the table t, which has none of the faults 4 to 11
--   no_layout           the layout of no table: 0 throughout
--   LaidInto t o r l    r answers the checks 10 and 11; the lent layout o is now l, the layout of table t where neither applies, and else o
--   LaidOut t r        r answers the checks 10 and 11, and is the layout of table t where neither applies
--
-- Only one layout fits a table (proofs/Laying, `laid_only`, `laid_into_only`).
use Rattle.std.specs.Prelude.{◌≡◌, ℕ, Result, IfOk, IfErr, replicate}
use Rattle.numbers.specs.Lists.{at}
use Rattle.rules.specs.Bounds.{max_rows}
use Rattle.rules.specs.Bus.{Table, clockwise, counterclockwise}
use Rattle.rules.specs.Line as line
use Rattle.rules.specs.Refusals.{Answers, line_checks}
use Rattle.table.specs.Columns.{ByRow}
use Rattle.table.specs.Refusal.{number, place}
use Rattle.table.specs.declared.columns.Columns.{Columns}
use Rattle.table.specs.declared.refusals.Refusal.{Refusal}
use Rattle.outline.specs.declared.Layout.{Layout}
use Rattle.time.specs.Time.{no_time, Timed}

abbrev pub table_with : (ℕ → ℕ) → Columns → Table
table_with cost c = record {
  elements = c.elements;
  rows = c.rows;
  rings = c.rings;
  cost = cost;
  period = at c.period;
  first = at c.first;
  second = at c.second;
  way = at c.way;
}

pub record Lies (t : Table) (l : Layout) : Type 0 where
  pub timed : Timed t l.time
  pub clear : line.HasCuts t
  pub cut : l.cut ≡ line.board_cut t clockwise
  pub other : l.other ≡ line.board_cut t counterclockwise
  pub top : l.top ≡ line.line_top t
  pub first : ByRow t.rows (line.line_first t) l.line.first
  pub second : ByRow t.rows (line.line_second t) l.line.second

abbrev pub no_layout : Layout
no_layout = record {
  cut = 0;
  other = 0;
  top = 0;
  time = no_time;
  line = record { first = replicate max_rows 0; second = replicate max_rows 0 };
}

pub record LaidInto (t : Table) (o : Layout) (r : Result Unit Refusal) (l : Layout) : Type 0 where
  pub answers : Answers (line_checks t) (number r) (place r)
  pub found : IfOk r (λ _. Lies t l)
  pub kept : IfErr r (λ _. l ≡ o)

pub record LaidOut (t : Table) (r : Result Layout Refusal) : Type 0 where
  pub answers : Answers (line_checks t) (number r) (place r)
  pub found : IfOk r (Lies t)
