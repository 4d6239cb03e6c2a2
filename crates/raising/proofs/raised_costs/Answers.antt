-- raised_costs: row after row's cost is put in its place.
use Rattle.std.proofs.Common.{ap₂, ◌∙◌, ℕ, max, arith}
use Rattle.numbers.specs.Rounding.{up}
use Rattle.table.proofs.ByRow.{by_row_start, by_row_put}
use Rattle.raising.proofs.raised_costs.Goals as goal

pub loop-i-init : goal.loop-i-init
loop-i-init c = by_row_start _

pub loop-i-preserved : goal.loop-i-preserved
loop-i-preserved c =
    by_row_put _ c.loop-i.invariant (omega arith)
    (c.raised_cost.ensures
    ∙ ap₂ (λ (x y : ℕ). max x (up y c.args.interval)) c.slots_at.ensures c.slots_at-in-loop-i.ensures)
