-- judge_table: the verdict of each outcome; the values of a table that is admitted fit.
use Rattle.std.proofs.Common.{arith, refl}
use Rattle.numbers.specs.Lists.{at}
use Rattle.rules.specs.Bus.{clockwise, counterclockwise}
use Rattle.table.specs.Columns.{table_of}
use Rattle.table.proofs.Reasons.{handed}
use Rattle.outline.proofs.Cuts.{board_high}
use Rattle.outline.proofs.Laying.{laid_in}
use Rattle.lags.proofs.Intervals.{shortest_le}
use Rattle.verdict.proofs.Weighing.{times_of}
use Rattle.verdict.proofs.Weighed.{rows_weighed}
use Rattle.verdict.proofs.Judging.{laid_weighable, judged_first, judged_next, judged_admitted, values_small}
use Rattle.verdict.proofs.judge_table.Goals as goal

pub returns-in_err-lay_into : goal.returns-in_err-lay_into
returns-in_err-lay_into c =
    rw (handed c.in_err-lay_into.field-0.0 c.from_residual.ensures.1)
    (judged_first _ _ (c.in_err-lay_into.ensures (at c.args.table.now.cost) c.requires).answers)

pub put_rates-light-requires : goal.put_rates-light-requires
put_rates-light-requires c =
    let T = (laid_in (c.in_ok-lay_into.ensures (at c.args.table.now.cost) c.requires)).found.timed in
    (times_of T.sound, omega (arith, T.hyper, T.short), omega (arith, T.interval, shortest_le T.sound), refl)

pub weigh-requires : goal.weigh-requires
weigh-requires c =
    let A = laid_in (c.in_ok-lay_into.ensures (at c.args.table.now.cost) c.requires) in
    (table_of c.args.table.now, laid_weighable A (rows_weighed A.found.timed c.put_rates-light.ensures))

pub returns-in_err-weighing : goal.returns-in_err-weighing
returns-in_err-weighing c =
    let A = laid_in (c.in_ok-lay_into.ensures (at c.args.table.now.cost) c.requires) in
    let W = c.in_err-weighing.ensures _ (laid_weighable A (rows_weighed A.found.timed c.put_rates-light.ensures)) in
    rw (handed c.in_err-weighing.field-0.0 c.from_residual-in_err-weighing.ensures.1) (judged_next A _ W.answers)

pub overflow_cast-result : goal.overflow_cast-result
overflow_cast-result c =
    let L = (laid_in (c.in_ok-lay_into.ensures (at c.args.table.now.cost) c.requires)).found in
    let s = L.timed.sound in
    omega (arith, L.cut, board_high s L.clear clockwise, s.elements_high)

pub overflow_cast-result-2 : goal.overflow_cast-result-2
overflow_cast-result-2 c =
    let L = (laid_in (c.in_ok-lay_into.ensures (at c.args.table.now.cost) c.requires)).found in
    let s = L.timed.sound in
    omega (arith, L.other, board_high s L.clear counterclockwise, s.elements_high)

pub overflow_cast-result-3 : goal.overflow_cast-result-3
overflow_cast-result-3 c =
    let T = (laid_in (c.in_ok-lay_into.ensures (at c.args.table.now.cost) c.requires)).found.timed in
    omega (arith, T.interval, shortest_le T.sound, T.short)

pub overflow_cast-result-4 : goal.overflow_cast-result-4
overflow_cast-result-4 c =
    let T = (laid_in (c.in_ok-lay_into.ensures (at c.args.table.now.cost) c.requires)).found.timed in
    omega (arith, T.hyper, T.short)

pub overflow_cast-result-5 : goal.overflow_cast-result-5
overflow_cast-result-5 c =
    let A = laid_in (c.in_ok-lay_into.ensures (at c.args.table.now.cost) c.requires) in
    let W = c.in_ok-weighing.ensures _ (laid_weighable A (rows_weighed A.found.timed c.put_rates-light.ensures)) in
    omega (arith, (values_small A W).0)

pub overflow_cast-result-6 : goal.overflow_cast-result-6
overflow_cast-result-6 c =
    let A = laid_in (c.in_ok-lay_into.ensures (at c.args.table.now.cost) c.requires) in
    let W = c.in_ok-weighing.ensures _ (laid_weighable A (rows_weighed A.found.timed c.put_rates-light.ensures)) in
    omega (arith, (values_small A W).1)

pub returns : goal.returns
returns c =
    let A = laid_in (c.in_ok-lay_into.ensures (at c.args.table.now.cost) c.requires) in
    judged_admitted A (c.in_ok-weighing.ensures _ (laid_weighable A (rows_weighed A.found.timed c.put_rates-light.ensures)))
