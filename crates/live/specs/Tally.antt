-- The places of a live table as columns, and what is worked out of them.
--
--   column_live M ..        a live table of which only the places are told
--   column_places M ..      the table of its places
--   Passing t              every row of t that has a period passes checks 7 to 9 and 26
--   segment_load d t s i    what row i of t adds to the load of segment s + 1, in units of 1 / d
use Rattle.std.specs.Prelude.{◌&&◌, List, [], ℕ, suc, ◌*◌, ◌/◌, ◌≤◌, ◌<◌, ltb}
use Rattle.numbers.specs.Finite.{only}
use Rattle.numbers.specs.Lists.{at}
use Rattle.rules.specs.Bounds.{max_elements, max_rows}
use Rattle.rules.specs.Bus.{Table, uses}
use Rattle.rules.specs.Live.{Live, places}
use Rattle.table.specs.Sound.{SoundRow}

abbrev pub column_live : (M : ℕ) (cost period first second label : List ℕ) → Live
column_live M cost period first second label = record {
  elements = M;
  cost = at cost;
  period = at period;
  first = at first;
  second = at second;
  label = at label;
  denominator = 0;
  sum = λ s. 0;
}

-- labels say nothing of it
abbrev pub column_places : (M : ℕ) (cost period first second : List ℕ) → Table
column_places M cost period first second = places (column_live M cost period first second [])

pub record Passing (t : Table) : Type 0 where
  pub small : t.elements ≤ max_elements
  pub row : (i : ℕ) → i < max_rows → 0 < t.period i → SoundRow t i

abbrev pub segment_load : (d : ℕ) (t : Table) (s i : ℕ) → ℕ
segment_load d t s i = only (ltb 0 (t.period i) && uses t i (suc s)) (d / t.period i * t.cost i)
