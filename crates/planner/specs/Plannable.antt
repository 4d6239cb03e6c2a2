-- Intervals that can be planned.
--
--   Plannable t a k m s u had room
--                      a is the analysis of table t, which is admitted, and its intervals from k, which starts at slot s, up to m, which
--                      starts at slot u, can be planned for rows that have had `had` slots, with room for so many words
use Rattle.std.specs.Prelude.{◌≡◌, List, ℕ, ◌+◌, ◌≤◌, length}
use Rattle.numbers.specs.Lists.{at}
use Rattle.rules.specs.Bounds.{max_rows}
use Rattle.rules.specs.Bus.{Table}
use Rattle.rules.specs.Loads.{start, intervals}
use Rattle.lags.specs.Lags.{Steady}
use Rattle.verdict.specs.declared.Analysis.{Analysis}
use Rattle.verdict.specs.Analysed.{Accepted}

pub record Plannable (t : Table) (a : Analysis) (k m s u : ℕ) (had : List ℕ) (room : ℕ) : Type 0 where
  pub accepted : Accepted t a
  pub totals : length had ≡ max_rows
  pub order : k ≤ m
  pub in_range : m ≤ intervals t
  pub from : s ≡ start t k
  pub until : u ≡ start t m
  pub steady : Steady t s (at had)
  pub roomy : u ≤ s + room
