-- Rows that differ in nothing but their costs and first ends.
--
--   alike period second way i j    rows i and j have the same second end, the same period and the same direction
--   Rowed c                        the columns c hold no more rows than there is room for, and each starts at an element of the ring
use Rattle.std.specs.Prelude.{Bool, ◌&&◌, ℕ, ◌≤◌, ◌<◌, eqb}
use Rattle.numbers.specs.Lists.{at}
use Rattle.rules.specs.Bounds.{max_elements, max_rows}
use Rattle.table.specs.declared.columns.Columns.{Columns}

abbrev pub alike : (period second way : ℕ → ℕ) → ℕ → ℕ → Bool
alike period second way i j = eqb (second j) (second i) && eqb (period j) (period i) && eqb (way j) (way i)

pub record Rowed (c : Columns) : Type 0 where
  pub few : c.rows ≤ max_rows
  pub start : (i : ℕ) → i < c.rows → at c.first i ≤ max_elements
