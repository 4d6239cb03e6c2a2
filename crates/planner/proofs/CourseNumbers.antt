-- The numbers of an admitted table, as the code holds it.
use mathlib.Core.Path.{◌≡◌}
use Prim.Native.Nat.{◌≤◌, ◌<◌}
use native.Mathlib.Omega.{arith}
use Rattle.rules.specs.Bounds.{max_rows, max_slots}
use Rattle.rules.specs.Bus.{Table}
use Rattle.rules.specs.Loads.{hyperperiod}
use Rattle.lags.proofs.Intervals.{hyperperiod_positive}
use Rattle.time.specs.Time.{Timed}
use Rattle.time.proofs.Periods.{periods_of, leading_periods}
use Rattle.verdict.specs.declared.Analysis.{Analysis}
use Rattle.verdict.specs.Analysed.{Accepted}

module _ {t : Table} {a : Analysis} (A : Accepted t a) where
  pub timed : Timed t a.outline.time
  timed = A.outline.timed

  pub hyper_is : a.outline.time.hyper ≡ hyperperiod t
  hyper_is = timed.hyper

  pub few_rows : a.outline.rows ≤ max_rows
  few_rows = let s = A.admissible.sound in omega (arith, A.outline.rows)

  pub few_sets : a.outline.sets ≤ max_rows
  few_sets = let s = A.admissible.sound in omega (arith, A.outline.few)

  pub few_periods : a.outline.time.count ≤ max_rows
  few_periods = (leading_periods timed.leads (periods_of A.admissible.sound)).few

  pub hyper_positive : 0 < a.outline.time.hyper
  hyper_positive = omega (arith, hyper_is, hyperperiod_positive A.admissible.sound)

  pub hyper_short : a.outline.time.hyper ≤ max_slots
  hyper_short = omega (arith, hyper_is, A.admissible.short)
