-- weigh_line: set after set is passed and weighed on the way up the line.
use Rattle.std.proofs.Common.{refl, sym, ◌∙◌, ◌<◌, arith}
use Rattle.sets.specs.Walk.{line_size}
use Rattle.verdict.proofs.Line.{sums_there}
use Rattle.verdict.proofs.Line.{passing_start, passing_room, passing_small, passing_load, passing_fits, passing_next, passing_end}
use Rattle.verdict.proofs.weights.weigh_line.Goals as goal

pub rates_at-requires : goal.rates_at-requires
rates_at-requires c =
    let p = c.requires in
    let O = p.0 in
    (p.1, λ i l. (omega (arith, O.line i l, O.within i l, O.short), omega (arith, O.within i l, O.short)), refl, refl)

pub loop-e-init : goal.loop-e-init
loop-e-init c = passing_start

pub weigh_set-found-requires : goal.weigh_set-found-requires
weigh_set-found-requires c =
    let z = c.requires in
    let P = c.loop-e.invariant in
    let on : c.loop-e.e < line_size = omega (arith, z.0.short) in (
      λ q. omega (arith, passing_room z.0 z.1 P _ (sums_there c.rates_at.ensures.1 z.1.some _ on) (sym c.closes.ensures ∙ q), z.1.few),
      passing_small z.0 z.1 P,
      z.2,
      z.3,
      z.4,
    )

pub overflow_sub-load : goal.overflow_sub-load
overflow_sub-load c =
    let z = c.requires in
    let s = c.rates_at.ensures in
    let on : c.loop-e.e < line_size = omega (arith, z.0.short) in
    omega (arith, (passing_load z.0 z.1 c.loop-e.invariant s.0 s.1 on).0)

pub overflow_add-load : goal.overflow_add-load
overflow_add-load c =
    let z = c.requires in
    let s = c.rates_at.ensures in
    let P = c.loop-e.invariant in
    let on : c.loop-e.e < line_size = omega (arith, z.0.short) in
    omega (arith, (passing_load z.0 z.1 P s.0 s.1 on).0, passing_fits z.0 z.1 P s.0 s.1 on)

pub loop-e-preserved : goal.loop-e-preserved
loop-e-preserved c =
    let z = c.requires in
    let s = c.rates_at.ensures in
    let P = c.loop-e.invariant in
    let v = c.weigh_set-found.ensures in
    let on : c.loop-e.e < line_size = omega (arith, z.0.short) in
    rw (v.0, v.1, v.2, c.closes.ensures, c.goes_on-started.ensures)
    (passing_next z.0 z.1 P s.0 s.1 on _ _ (sums_there s.0 z.1.some _ on) (sums_there s.1 z.1.some _ on) _
    (omega (arith, (passing_load z.0 z.1 P s.0 s.1 on).0)))

pub returns : goal.returns
returns c =
    let z = c.requires in
    passing_end z.0 z.1 c.loop-e.invariant (omega arith)
