-- Tables that have none of the faults 4, 5, 7, 8, 9 and 26, and files that pass checks 1 to 9 and 26: what every call past the file's
-- checks may count on.
--
--   SoundRow t i       row i has two different ends, a period and a cost that the bus allows, and a ring to run on
--   Sound t            so have the table's numbers and all its rows
--   Passed f           file f is as long as it says and holds such a table
use Rattle.std.specs.Prelude.{◌≡◌, ◌≢◌, List, ℕ, ◌+◌, ◌*◌, ◌≤◌, ◌<◌, length}
use Rattle.rules.specs.Bounds.{max_elements, max_rows, max_rings, max_slots}
use Rattle.rules.specs.Bus.{Table}
use Rattle.rules.specs.TableFile.{header_size, row_size, version, file_rings, file_table}

pub record SoundRow (t : Table) (i : ℕ) : Type 0 where
  pub first_low : 1 ≤ t.first i
  pub first_high : t.first i ≤ t.elements
  pub second_low : 1 ≤ t.second i
  pub second_high : t.second i ≤ t.elements
  pub ends_differ : t.first i ≢ t.second i
  pub period_low : 1 ≤ t.period i
  pub period_high : t.period i ≤ max_slots
  pub cost_low : 1 ≤ t.cost i
  pub cost_high : t.cost i ≤ t.period i
  pub way_known : t.way i < t.rings

pub record Sound (t : Table) : Type 0 where
  pub elements_low : 2 ≤ t.elements
  pub elements_high : t.elements ≤ max_elements
  pub rows_low : 1 ≤ t.rows
  pub rows_high : t.rows ≤ max_rows
  pub rings_few : t.rings ≤ max_rings
  pub row : (i : ℕ) → i < t.rows → SoundRow t i

pub record Passed (f : List ℕ) : Type 0 where
  pub size : length f ≡ header_size + row_size (file_rings f) (version f) * (file_table f).rows
  pub sound : Sound (file_table f)
