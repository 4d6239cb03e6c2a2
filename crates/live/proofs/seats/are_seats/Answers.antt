-- `seats::are_seats` meets its contract.
use Rattle.std.proofs.Common.{rules, tests, refl}
use Rattle.std.proofs.lemmas.Iterator.{YieldsList-from_range}
use Rattle.rules.specs.Bounds.{max_rows}
use Rattle.live.specs.Tally.{column_live}
use Rattle.live.specs.Seats.{Seat}
use Rattle.live.proofs.Seated.{decides_from_all, seat_decided}
use Rattle.live.proofs.seats.are_seats.Goals as goal

pub returns : goal.returns
returns c =
    let z = c.args in
    let l = column_live z.elements z.cost.now z.period.now z.first.now z.second.now z.label.now in
    decides_from_all max_rows (Seat l) _ _ _ c.all.ensures.ran
    (YieldsList-from_range 0 max_rows max_rows refl refl)
    (λ x b q k. search (rules, tests, seat_decided))
