-- weigh: each return answers 13 and 14, and the last has what is found of the sets.
use Rattle.std.proofs.Common.{arith, refl}
use Rattle.lags.proofs.Intervals.{hyperperiod_positive, shortest_positive, shortest_le}
use Rattle.verdict.proofs.Weighed.{weighable_on_line, weighable_rates, weighs_light, weighs_over, weighs_done}
use Rattle.verdict.proofs.weigh.Goals as goal

pub at-requires : goal.at-requires
at-requires c =
    let A = c.requires.1 in
    let s = A.timed.sound in
    omega (arith, c.if-light-rows.true, A.rows_is)

pub returns-then-light-rows : goal.returns-then-light-rows
returns-then-light-rows c t A = weighs_light A c.if-light-rows.true _ c.at.ensures

pub weigh_line-found-requires : goal.weigh_line-found-requires
weigh_line-found-requires c =
    let A = c.requires.1 in
    let T = A.timed in
    let s = T.sound in (
      weighable_on_line A,
      weighable_rates A,
      omega (arith, T.hyper, T.short),
      omega (arith, T.interval, shortest_positive s),
      omega (arith, T.interval, shortest_le s),
    )

pub at-requires-then-found : goal.at-requires-then-found
at-requires-then-found c =
    let A = c.requires.1 in
    let s = A.timed.sound in
    omega (arith, c.if-found.true, c.weigh_line-found.ensures.1.few, A.rows_is)

pub returns-then-found : goal.returns-then-found
returns-then-found c t A =
    let v = c.weigh_line-found.ensures in
    weighs_over A c.if-light-rows.false v.1 v.2 c.if-found.true _ c.at-then-found.ensures

pub thousandths-requires : goal.thousandths-requires
thousandths-requires c =
    let T = c.requires.1.timed in
    (c.weigh_line-found.ensures.2.small, omega (arith, T.hyper, hyperperiod_positive T.sound), omega (arith, T.hyper, T.short))

pub returns : goal.returns
returns c t A =
    let v = c.weigh_line-found.ensures in
    weighs_done A c.if-light-rows.false v.1 v.2 c.if-found.false {w = record { load = c.thousandths.result; sets = c.weigh_line-found.result.sets }} refl
    c.thousandths.ensures
