-- is_in_order: rows that keep the rules, whose denominator and sums are those worked out afresh.
use Rattle.numbers.proofs.Truth.{granted, decides_no}
use Rattle.rules.specs.Live.{Seated}
use Rattle.live.specs.State.{live_of}
use Rattle.live.specs.Tally.{column_live}
use Rattle.live.specs.declared.Live.{Live}
use Rattle.live.proofs.State.{live_passing, passing_periods, capped_small}
use Rattle.live.proofs.Order.{seated_with, none_short, sums_decide}
use Rattle.live.proofs.Live.is_in_order.Goals as goal

-- the rows keep the rules
seated : (l : Live) → Seated (column_live l.elements l.cost l.period l.first l.second l.label) → Seated (live_of l)
seated l S = seated_with _ _ _ S

pub denominator_of-d-requires : goal.denominator_of-d-requires
denominator_of-d-requires c =
    let S = seated c.args.self.now (granted c.are_seated.ensures c.if-not-are_seated.false) in
    passing_periods _ (live_passing (live_of c.args.self.now) S.high S.place)

pub returns-then-d-eq0 : goal.returns-then-d-eq0
returns-then-d-eq0 c = decides_no (none_short c.args.self.now c.denominator_of-d.ensures c.if-d-eq0.true)

pub sums_of-sums-requires : goal.sums_of-sums-requires
sums_of-sums-requires c =
    let S = seated c.args.self.now (granted c.are_seated.ensures c.if-not-are_seated.false) in
    (capped_small c.denominator_of-d.ensures, live_passing (live_of c.args.self.now) S.high S.place)

pub returns : goal.returns
returns c =
    let l = c.args.self.now in
    sums_decide l c.denominator_of-d.ensures c.if-d-eq0.false c.if-d-self.false
    (seated l (granted c.are_seated.ensures c.if-not-are_seated.false)) c.sums_of-sums.result
    (c.sums_of-sums.ensures.1 l.label) c.are_same.ensures
