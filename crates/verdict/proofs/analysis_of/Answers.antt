-- analysis_of: the refusal of the outline, or what is weighed.
use Rattle.std.proofs.Common.{arith, refl}
use Rattle.numbers.specs.Lists.{at}
use Rattle.table.specs.Columns.{table_of}
use Rattle.table.proofs.Reasons.{handed}
use Rattle.lags.proofs.Intervals.{shortest_le}
use Rattle.verdict.specs.Analysed.{Rated}
use Rattle.verdict.proofs.Weighing.{times_of}
use Rattle.verdict.proofs.Weighed.{rows_weighed}
use Rattle.verdict.proofs.Analysing.{analysed_first, rated_weighable, analysed_next, analysed_done}
use Rattle.verdict.proofs.analysis_of.Goals as goal

pub returns-in_err-outline : goal.returns-in_err-outline
returns-in_err-outline c =
    rw (handed c.in_err-outline.field-0.0 c.from_residual.ensures.1)
    (analysed_first _ _ (c.in_err-outline.ensures (at c.args.table.now.cost) c.requires).answers)

pub put_rates-light-requires : goal.put_rates-light-requires
put_rates-light-requires c =
    let T = (c.in_ok-outline.ensures (at c.args.table.now.cost) c.requires).found.timed in
    (times_of T.sound, omega (arith, T.hyper, T.short), omega (arith, T.interval, shortest_le T.sound), refl)

pub weigh-requires : goal.weigh-requires
weigh-requires c =
    let t = table_of c.args.table.now in
    let O = c.in_ok-outline.ensures (at c.args.table.now.cost) c.requires in
    let R : Rated t c.in_ok-outline.outline c.put_rates-light.result c.put_rates-light.new.rate =
    record { outlined = O; weighed = rows_weighed O.found.timed c.put_rates-light.ensures } in
    (t, rated_weighable t R)

pub returns-in_err-weighing : goal.returns-in_err-weighing
returns-in_err-weighing c =
    let t = table_of c.args.table.now in
    let O = c.in_ok-outline.ensures (at c.args.table.now.cost) c.requires in
    let R : Rated t c.in_ok-outline.outline c.put_rates-light.result c.put_rates-light.new.rate =
    record { outlined = O; weighed = rows_weighed O.found.timed c.put_rates-light.ensures } in
    rw (handed c.in_err-weighing.field-0.0 c.from_residual-in_err-weighing.ensures.1)
    (analysed_next t R _ (c.in_err-weighing.ensures t (rated_weighable t R)).answers)

pub returns : goal.returns
returns c =
    let t = table_of c.args.table.now in
    let O = c.in_ok-outline.ensures (at c.args.table.now.cost) c.requires in
    let R : Rated t c.in_ok-outline.outline c.put_rates-light.result c.put_rates-light.new.rate =
    record { outlined = O; weighed = rows_weighed O.found.timed c.put_rates-light.ensures } in
    analysed_done t R (c.in_ok-weighing.ensures t (rated_weighable t R))
