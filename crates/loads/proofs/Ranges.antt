-- Only one pair of arrays holds each row's nodes.
use mathlib.Core.Path.{◌≡◌}
use mathlib.Core.List.{List}
use Prim.Native.Nat.{ℕ}
use Rattle.table.proofs.ByRow.{by_row_only}
use Rattle.loads.specs.Ranges.{Ranged}

pub ranged_only : {n K : ℕ} {ws tail head tail' head' : List ℕ} → Ranged n K ws tail head → Ranged n K ws tail' head'
    → (tail ≡ tail') × (head ≡ head')
ranged_only R Q = (by_row_only R.lowest Q.lowest, by_row_only R.highest Q.highest)
