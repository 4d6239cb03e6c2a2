-- `seats::is_repeated` meets its contract.
use Rattle.std.proofs.Common.{[], ◌∙◌}
use Rattle.live.specs.Tally.{column_live}
use Rattle.live.proofs.Sums.{place_row}
use Rattle.live.proofs.Seated.{held_decides, earlier_equal}
use Rattle.live.proofs.seats.is_repeated.Goals as goal

pub returns-then-row-ne0 : goal.returns-then-row-ne0
returns-then-row-ne0 c elements =
    let z = c.args in
    let l = column_live elements z.cost.now z.period.now z.first.now z.second.now [] in
    c.has_row.ensures
    ∙ earlier_equal l (place_row elements (λ j. 0) c.row_at-row.ensures)
    ∙ held_decides _ _ (λ e. c.if-row-ne0.true (c.row_at-row.ensures.period ∙ e))
