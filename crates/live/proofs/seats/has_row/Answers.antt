-- `seats::has_row` meets its contract.
use Rattle.std.proofs.Common.{rules, tests, ◌∙◌, ℕ, refl, arith}
use Rattle.std.proofs.lemmas.Iterator.{YieldsList-from_range}
use Rattle.std.proofs.lemmas.Iterator.Search.{any_from_yields_List}
use Rattle.numbers.specs.Lists.{at}
use Rattle.live.specs.Seats.{equal}
use Rattle.live.proofs.Seated.{any_below}
use Rattle.live.proofs.seats.has_row.Goals as goal

pub returns : goal.returns
returns c =
    let n : ℕ = c.args.count in
    any_from_yields_List (equal (at c.args.period.now) (at c.args.first.now) (at c.args.second.now) c.args.row) _ _ _ c.any.ensures.ran
    (YieldsList-from_range 0 n n refl (omega arith))
    (λ x b q k. search (rules, tests))
    ∙ any_below n _
