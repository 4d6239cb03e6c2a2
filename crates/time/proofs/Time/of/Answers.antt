-- of: h and the leading periods go up the rows, and a period that was met changes neither; the leading ones tell L.
use Rattle.std.proofs.Common.{sym, ◌∙◌, arith}
use borrow.Author.Tests.{not-true, not-false}
use Rattle.time.proofs.Periods.{keeping_low, keeping_room, keeping_space, keeping_end, leading_periods, rising_over}
use Rattle.time.proofs.Periods.{clocking_start, clocking_again, clocking_kept, clocking_new, clocks_none, clocks_end}
use Rattle.time.proofs.Time.of.Goals.{then-slots_at-next+else-h+then-is_leading, then-slots_at-next+else-h+else-is_leading, else-slots_at-next}
use Rattle.time.proofs.Time.of.Goals as goal

pub loop-i-init : goal.loop-i-init
loop-i-init c = clocking_start c.requires

pub raised-h-requires : goal.raised-h-requires
raised-h-requires c =
    let P = c.requires in
    let R = c.loop-i.invariant.rising in
    let e = c.slots_at-next.ensures in
    (R.low, R.high, omega (arith, e, P.low c.loop-i.i (omega arith)), omega (arith, e, P.high c.loop-i.i (omega arith)))

pub returns-then-h : goal.returns-then-h
returns-then-h c =
    rw c.none.ensures
    (clocks_none
    (rising_over c.requires c.loop-i.invariant.rising (omega arith)
    (rw c.slots_at-next.ensures at c.raised-h.ensures) c.if-h.true))

pub is_leading-requires : goal.is_leading-requires
is_leading-requires c =
    let K = c.loop-i.invariant.keeping in
    (keeping_room c.requires K, keeping_low c.requires K)

pub bounds-kept-count : goal.bounds-kept-count
bounds-kept-count c = keeping_space c.requires c.loop-i.invariant.keeping (omega arith)

pub loop-i-preserved : goal.loop-i-preserved
loop-i-preserved c =
    let P = c.requires in
    let C = c.loop-i.invariant in
    let e = c.slots_at-next.ensures in
    let place = c.place_of-place in
    elim c.if-slots_at-next.branch [
      | then-slots_at-next+else-h+then-is_leading w ↦
          rw (w.met-is, w.kept-is, w.count-is, w.h-is)
          (clocking_new P C (omega arith) place.result place.ensures (rw e at w.raised-h.ensures) w.if-h.false
          (not-true _ (sym (rw e at w.is_leading.ensures) ∙ w.if-is_leading.true)))
      | then-slots_at-next+else-h+else-is_leading w ↦
          rw (w.met-is, w.kept-is, w.count-is, w.h-is)
          (clocking_kept P C (omega arith) place.result place.ensures (rw e at w.raised-h.ensures) w.if-h.false
          (not-false _ (sym (rw e at w.is_leading.ensures) ∙ w.if-is_leading.false)))
      | else-slots_at-next w ↦
          rw (w.met-is, w.kept-is, w.count-is, w.h-is)
          (clocking_again P C (omega arith) place.result (sym c.slots_at.ensures ∙ w.if-slots_at-next.false ∙ e))
    ]

pub shortest_of-requires : goal.shortest_of-requires
shortest_of-requires c =
    leading_periods (keeping_end c.loop-i.invariant.keeping (omega arith)) c.requires

pub returns : goal.returns
returns c = clocks_end c.requires c.loop-i.invariant (omega arith) c.shortest_of.ensures
