-- The code's rows and columns, as a split table's.
--
--   numbers_of x        the numbers of row x
--   placed c x         the columns c with row x after the last
--   Fits x             ends and direction of row x fit a byte each
use Rattle.std.specs.Prelude.{◌+◌, ◌<◌, set}
use Rattle.table.specs.declared.columns.Columns.{Columns}
use Rattle.table.specs.declared.Row.{Row}
use Rattle.rules.specs.Relay as relay

abbrev pub numbers_of : Row → relay.Row
numbers_of x = record { cost = x.cost; period = x.period; first = x.first; second = x.second; way = x.way }

abbrev pub placed : Columns → Row → Columns
placed c x = record {
  elements = c.elements;
  rows = c.rows + 1;
  rings = c.rings;
  cost = set c.cost c.rows x.cost;
  period = set c.period c.rows x.period;
  first = set c.first c.rows x.first;
  second = set c.second c.rows x.second;
  way = set c.way c.rows x.way;
}

pub record Fits (x : Row) : Type 0 where
  pub first : x.first < 256
  pub second : x.second < 256
  pub way : x.way < 256
