-- The places of a live table, one by one.
--
--   Zeros row              nothing but zeros, the label too
--   Seat l i               place i of l is free, or holds a row that passes 7 to 9
--   equal .. row j         place j has the row's ends and period
use Rattle.std.specs.Prelude.{◌≡◌, ◌⊎◌, Bool, ◌&&◌, ℕ, eqb}
use Rattle.rules.specs.Refusals.{Answers, faults}
use Rattle.rules.specs.Live.{Live, Blank, places}
use Rattle.table.specs.declared.Row.{Row}

pub record Zeros (row : Row) : Type 0 where
  pub cost : row.cost ≡ 0
  pub period : row.period ≡ 0
  pub first : row.first ≡ 0
  pub second : row.second ≡ 0
  pub label : row.label ≡ 0

abbrev pub Seat : Live → ℕ → Type 0
Seat l i = Blank l i ⊎ Answers (faults (places l) i) 0 0

abbrev pub equal : (period first second : ℕ → ℕ) → Row → ℕ → Bool
equal period first second row j = eqb (first j) row.first && eqb (second j) row.second && eqb (period j) row.period
