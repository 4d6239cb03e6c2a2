-- `seats::are_single` meets its contract.
use Rattle.std.proofs.Common.{rules, tests, ℕ, refl, ltb, T}
use Rattle.std.proofs.lemmas.Iterator.{YieldsList-from_range}
use Rattle.numbers.specs.Lists.{at}
use Rattle.rules.specs.Bounds.{max_rows}
use Rattle.rules.specs.Bus.{pasted}
use Rattle.live.specs.Tally.{column_places}
use Rattle.live.proofs.Seated.{decides_from_all, single_decided}
use Rattle.live.proofs.seats.are_single.Goals as goal

pub returns : goal.returns
returns c elements =
    let z = c.args in
    let a = λ (i : ℕ). ltb 0 (at z.period.now i) in
    let b = λ (i : ℕ). pasted (column_places elements z.cost.now z.period.now z.first.now z.second.now) i in
    decides_from_all max_rows (λ i. T (a i) → T (b i) → ⊥) _ _ _ c.all.ensures.ran
    (YieldsList-from_range 0 max_rows max_rows refl refl)
    (λ x r q k. search (rules, tests, single_decided))
