-- analysis_within: the refusal of the outline, of the limits, or what is weighed.
use Rattle.std.proofs.Common.{arith, refl}
use Rattle.numbers.specs.Lists.{at}
use Rattle.table.specs.Columns.{table_of}
use Rattle.table.proofs.Reasons.{handed}
use Rattle.ring.proofs.Rows.{sound_routes}
use Rattle.lags.proofs.Intervals.{shortest_le}
use Rattle.verdict.proofs.Weighing.{times_of}
use Rattle.verdict.proofs.Weighed.{rows_weighed}
use Rattle.verdict.specs.Analysed.{Rated}
use Rattle.verdict.proofs.Analysing.{rated_weighable, bound_refused, bound_passed}
use Rattle.limited.specs.Limits.{Limited}
use Rattle.limited.proofs.Checked.{within_line, within_limit, within_bound}
use Rattle.limited.proofs.analysis_within.Goals as goal

pub returns-in_err-outline : goal.returns-in_err-outline
returns-in_err-outline c =
    let a = c.args in
    rw (handed c.in_err-outline.field-0.0 c.from_residual.ensures.1)
    (within_line (table_of a.table.now) a.label.now a.limits.ours a.limits.theirs _
    (c.in_err-outline.ensures (at a.table.now.cost) c.requires.0).answers)

pub put_rates-light-requires : goal.put_rates-light-requires
put_rates-light-requires c =
    let T = (c.in_ok-outline.ensures (at c.args.table.now.cost) c.requires.0).found.timed in
    (times_of T.sound, omega (arith, T.hyper, T.short), omega (arith, T.interval, shortest_le T.sound), refl)

pub lay_segments-segments-requires : goal.lay_segments-segments-requires
lay_segments-segments-requires c = sound_routes {t = table_of c.args.table.now} c.requires.0

pub kept_within-requires : goal.kept_within-requires
kept_within-requires c =
    let t = table_of c.args.table.now in
    let O = c.in_ok-outline.ensures (at c.args.table.now.cost) c.requires.0 in
    let R : Rated t c.in_ok-outline.outline c.put_rates-light.result c.put_rates-light.new.rate =
    record { outlined = O; weighed = rows_weighed O.found.timed c.put_rates-light.ensures } in
    let L : Limited t c.args.table.now.elements c.args.table.now.rows c.in_ok-outline.outline.time.hyper c.put_rates-light.new.rate
    c.lay_segments-segments.result =
    record {
      sound = O.found.timed.sound;
      one_ring = c.requires.1;
      elements_is = refl;
      rows_is = refl;
      hyper_is = O.found.timed.hyper;
      short = O.found.timed.short;
      rate_is = R.weighed.rate;
      segments_is = c.lay_segments-segments.ensures;
    } in
    ((t, L), c.requires.2, c.requires.3)

pub returns-in_err-kept_within : goal.returns-in_err-kept_within
returns-in_err-kept_within c =
    let a = c.args in
    let t = table_of c.args.table.now in
    let O = c.in_ok-outline.ensures (at c.args.table.now.cost) c.requires.0 in
    let R : Rated t c.in_ok-outline.outline c.put_rates-light.result c.put_rates-light.new.rate =
    record { outlined = O; weighed = rows_weighed O.found.timed c.put_rates-light.ensures } in
    let L : Limited t c.args.table.now.elements c.args.table.now.rows c.in_ok-outline.outline.time.hyper c.put_rates-light.new.rate
    c.lay_segments-segments.result =
    record {
      sound = O.found.timed.sound;
      one_ring = c.requires.1;
      elements_is = refl;
      rows_is = refl;
      hyper_is = O.found.timed.hyper;
      short = O.found.timed.short;
      rate_is = R.weighed.rate;
      segments_is = c.lay_segments-segments.ensures;
    } in
    rw (handed c.in_err-kept_within.field-0.0 c.from_residual-in_err-kept_within.ensures.1)
    (within_limit t a.label.now a.limits.ours a.limits.theirs R _ (c.in_err-kept_within.ensures t L))

pub weigh-requires : goal.weigh-requires
weigh-requires c =
    let t = table_of c.args.table.now in
    let O = c.in_ok-outline.ensures (at c.args.table.now.cost) c.requires.0 in
    let R : Rated t c.in_ok-outline.outline c.put_rates-light.result c.put_rates-light.new.rate =
    record { outlined = O; weighed = rows_weighed O.found.timed c.put_rates-light.ensures } in
    (t, rated_weighable t R)

pub returns-in_err-weighing : goal.returns-in_err-weighing
returns-in_err-weighing c =
    let a = c.args in
    let t = table_of c.args.table.now in
    let O = c.in_ok-outline.ensures (at c.args.table.now.cost) c.requires.0 in
    let R : Rated t c.in_ok-outline.outline c.put_rates-light.result c.put_rates-light.new.rate =
    record { outlined = O; weighed = rows_weighed O.found.timed c.put_rates-light.ensures } in
    let L : Limited t c.args.table.now.elements c.args.table.now.rows c.in_ok-outline.outline.time.hyper c.put_rates-light.new.rate
    c.lay_segments-segments.result =
    record {
      sound = O.found.timed.sound;
      one_ring = c.requires.1;
      elements_is = refl;
      rows_is = refl;
      hyper_is = O.found.timed.hyper;
      short = O.found.timed.short;
      rate_is = R.weighed.rate;
      segments_is = c.lay_segments-segments.ensures;
    } in
    rw (handed c.in_err-weighing.field-0.0 c.from_residual-in_err-weighing.ensures.1)
    (within_bound t a.label.now a.limits.ours a.limits.theirs R (c.in_ok-kept_within.ensures t L)
    (bound_refused t _ (c.in_err-weighing.ensures t (rated_weighable t R)).answers))

pub returns : goal.returns
returns c =
    let a = c.args in
    let t = table_of c.args.table.now in
    let O = c.in_ok-outline.ensures (at c.args.table.now.cost) c.requires.0 in
    let R : Rated t c.in_ok-outline.outline c.put_rates-light.result c.put_rates-light.new.rate =
    record { outlined = O; weighed = rows_weighed O.found.timed c.put_rates-light.ensures } in
    let L : Limited t c.args.table.now.elements c.args.table.now.rows c.in_ok-outline.outline.time.hyper c.put_rates-light.new.rate
    c.lay_segments-segments.result =
    record {
      sound = O.found.timed.sound;
      one_ring = c.requires.1;
      elements_is = refl;
      rows_is = refl;
      hyper_is = O.found.timed.hyper;
      short = O.found.timed.short;
      rate_is = R.weighed.rate;
      segments_is = c.lay_segments-segments.ensures;
    } in
    within_bound t a.label.now a.limits.ours a.limits.theirs R (c.in_ok-kept_within.ensures t L)
    (bound_passed t R (c.in_ok-weighing.ensures t (rated_weighable t R)))
