-- list_sets: a row more by its ends, and an element more of the walk.
use Rattle.std.proofs.Common.{◌<◌, refl, arith}
use Rattle.numbers.specs.Lists.{at}
use Rattle.numbers.proofs.Lists.{zeros_at}
use Rattle.rules.specs.Bounds.{max_rows}
use Rattle.sets.specs.Walk.{line_size, ends_at, RowsAt}
use Rattle.sets.proofs.Loops.{
  filling_start,
  filling_next,
  filling_end,
  none_there,
  some_there,
  across_start,
  across_next,
  Here,
  here,
  Ended,
  walked_start,
  walked_room,
  ended_put,
  ended_none,
  ended_still,
  ended_as,
  walked_starts,
  walked_on,
  walked_end,
}
use Rattle.sets.proofs.list_sets.Goals as goal
use Rattle.sets.proofs.list_sets.Goals.{
  then-ending-ne0+then-started,
  then-ending-ne0+else-started,
  else-ending-ne0,
  then-starting-ne0,
  else-starting-ne0,
}

pub loop-i-init : goal.loop-i-init
loop-i-init c = (filling_start line_size _, filling_start line_size _)

pub loop-i-preserved : goal.loop-i-preserved
loop-i-preserved c =
    let O = c.requires in
    let l = c.loop-i-test.true in
    let i = c.loop-i.i in (
      filling_next _ c.loop-i.invariant.0 (omega (arith, O.few)) c.end_at-from.ensures
          (omega (arith, c.end_at-from.ensures, O.line i l, O.within i l, O.short)),
      filling_next _ c.loop-i.invariant.1 (omega (arith, O.few)) c.end_at-to.ensures
          (omega (arith, c.end_at-to.ensures, O.within i l, O.short)),
    )

pub loop-e-init : goal.loop-e-init
loop-e-init c = (walked_start _ _ _ _, across_start _ _ _)

pub bounds-words-count : goal.bounds-words-count
bounds-words-count c =
    let E : RowsAt c.args.rows (at c.args.second.now) c.loop-i.ends = filling_end (omega arith) c.loop-i.invariant.1 in
    let low : c.loop-e.e < line_size = omega (arith, c.requires.short) in
    let W = c.loop-e.invariant in
    omega (
      arith,
      walked_room W.0 (here _ _ _ _ _ W.1) (some_there E _ low c.if-ending-ne0.true) c.if-started.true,
      c.requires.few,
    )

pub loop-e-preserved : goal.loop-e-preserved
loop-e-preserved c =
    let n = c.args.rows in
    let first = at c.args.first.now in
    let second = at c.args.second.now in
    let e = c.loop-e.e in
    let S : RowsAt n first c.loop-i.starts = filling_end (omega arith) c.loop-i.invariant.0 in
    let E : RowsAt n second c.loop-i.ends = filling_end (omega arith) c.loop-i.invariant.1 in
    let low : e < line_size = omega (arith, c.requires.short) in
    let W = c.loop-e.invariant in
    let H : Here n first second e (ends_at n first e) (ends_at n second e) c.loop-e.across = here _ _ _ _ _ W.1 in
    let ended : Ended _ _ _ _ _ _ _ _ =
    elim c.if-ending-ne0.branch [
      | then-ending-ne0+then-started w ↦ ended_as w.words-is w.count-is w.started-is
          (ended_put W.0 H (some_there E _ low w.if-ending-ne0.true) w.if-started.true c.requires.few)
      | then-ending-ne0+else-started w ↦ ended_as w.words-is w.count-is w.started-is
          (ended_none W.0 H (some_there E _ low w.if-ending-ne0.true) w.if-started.false)
      | else-ending-ne0 w ↦ ended_as w.words-is w.count-is w.started-is
          (ended_still W.0 H (none_there E _ low w.if-ending-ne0.false))
    ] in (
      elim c.if-starting-ne0.branch [
        | then-starting-ne0 w ↦ walked_starts ended H (some_there S _ low w.if-starting-ne0.true) w.started-is
        | else-starting-ne0 w ↦ walked_on ended H (none_there S _ low w.if-starting-ne0.false) w.started-is
      ],
      across_next c.requires.line S E _ _ low W.1,
    )

pub returns : goal.returns
returns c = walked_end c.requires (omega arith) refl (zeros_at max_rows) c.loop-e.invariant.0
