-- step_on: the refusal is the analysis's, or 15, 16 or 17; or one interval is planned.
use Rattle.std.proofs.Common.{◌≡◌, Ok, arith, rules, ap, ap₂, ◌-◌}
use Rattle.std.proofs.lemmas.Result.{IfOk-at_ok}
use lib.ListN.{length}
use Rattle.rules.specs.Calls.{admitted}
use Rattle.lags.proofs.Intervals.{intervals_le}
use Rattle.planner.specs.State.{stage_of, planner_of}
use Rattle.planner.proofs.CourseNumbers.{timed}
use Rattle.planner.proofs.Checks.{step_off, step_finished, step_short, step_done}
use Rattle.planner.proofs.Laying.{due_begins, due_length, due_plannable}
use Rattle.planner.proofs.Answering.{step_refusal, step_answer}
use Rattle.planner.proofs.Planner.step_on.Goals as goal

pub returns-then-is_off : goal.returns-then-is_off
returns-then-is_off c =
    let w : c.args.analysed ≡ Ok c.in_ok-table.table = c.in_ok-table.was in
    rw (w, c.from.ensures)
    (record {
      done = λ t A.
          step_refusal (admitted t) _ c.args.self c.args.out.now (search rules)
          (step_off t (planner_of c.args.self) (length c.args.out.now)
          ((c.is_off.ensures t A (c.slot_reached-slot.ensures t (timed A))).holds c.if-is_off.true));
      refused = tt;
    })

pub returns-in_default : goal.returns-in_default
returns-in_default c =
    let w : c.args.analysed ≡ Ok c.in_ok-table.table = c.in_ok-table.was in
    rw (w, c.from-in_default.ensures)
    (record {
      done = λ t A.
          let here = c.slot_reached-slot.ensures t (timed A) in
          let still = (c.is_off.ensures t A here).fails c.if-is_off.false in
          step_refusal (admitted t) _ c.args.self c.args.out.now (search rules)
          (step_finished t (planner_of c.args.self) (length c.args.out.now) still (ap stage_of c.in_default.is));
      refused = tt;
    })

pub next_end-end-requires : goal.next_end-end-requires
next_end-end-requires c =
    let w = IfOk-at_ok _ c.in_ok-table.was c.requires in
    let here = c.slot_reached-slot.ensures w.0 (timed w.1) in
    let still = (c.is_off.ensures w.0 w.1 here).fails c.if-is_off.false in
    (w.0, c.in-Due.k, timed w.1, due_begins w.1 c.args.self c.in-Due.k here still c.in-Due.is)

pub overflow_sub-end : goal.overflow_sub-end
overflow_sub-end c =
    let w = IfOk-at_ok _ c.in_ok-table.was c.requires in
    let here = c.slot_reached-slot.ensures w.0 (timed w.1) in
    let still = (c.is_off.ensures w.0 w.1 here).fails c.if-is_off.false in
    let B = due_begins w.1 c.args.self c.in-Due.k here still c.in-Due.is in
    due_length w.1 c.args.self c.in-Due.k here still c.in-Due.is _ (c.next_end-end.ensures w.0 c.in-Due.k (timed w.1) B)

pub returns-then-out-end : goal.returns-then-out-end
returns-then-out-end c =
    let w : c.args.analysed ≡ Ok c.in_ok-table.table = c.in_ok-table.was in
    rw (w, c.from-then-out-end.ensures)
    (record {
      done = λ t A.
          let here = c.slot_reached-slot.ensures t (timed A) in
          let still = (c.is_off.ensures t A here).fails c.if-is_off.false in
          let B = due_begins A c.args.self c.in-Due.k here still c.in-Due.is in
          let long = ap₂ ◌-◌ (c.next_end-end.ensures t c.in-Due.k (timed A) B) B.here in
          step_refusal (admitted t) _ c.args.self c.args.out.now (search rules)
          (step_short t (planner_of c.args.self) (length c.args.out.now) still c.in-Due.k (ap stage_of c.in-Due.is)
          (omega (arith, long, c.if-out-end.true)));
      refused = tt;
    })

pub plan_intervals-after-requires : goal.plan_intervals-after-requires
plan_intervals-after-requires c =
    let w = IfOk-at_ok _ c.in_ok-table.was c.requires in
    let here = c.slot_reached-slot.ensures w.0 (timed w.1) in
    let still = (c.is_off.ensures w.0 w.1 here).fails c.if-is_off.false in
    let B = due_begins w.1 c.args.self c.in-Due.k here still c.in-Due.is in (
      w.0,
      c.in-Due.k,
      _,
      due_plannable w.1 c.args.self c.in-Due.k here still c.in-Due.is (search rules) _ _
          (c.next_end-end.ensures w.0 c.in-Due.k (timed w.1) B) c.if-out-end.false,
    )

pub overflow_add-k : goal.overflow_add-k
overflow_add-k c =
    let w = IfOk-at_ok _ c.in_ok-table.was c.requires in
    let A = w.1 in
    let here = c.slot_reached-slot.ensures w.0 (timed A) in
    let still = (c.is_off.ensures w.0 A here).fails c.if-is_off.false in
    let B = due_begins A c.args.self c.in-Due.k here still c.in-Due.is in
    record { fits = omega (arith, B.in_range, intervals_le A.admissible.sound, A.admissible.short) }

pub returns : goal.returns
returns c =
    let w : c.args.analysed ≡ Ok c.in_ok-table.table = c.in_ok-table.was in
    let k = c.in-Due.k in
    let p = c.args.self in
    rw (w, c.stage_after.ensures)
    (record {
      done = λ t A.
          let here = c.slot_reached-slot.ensures t (timed A) in
          let still = (c.is_off.ensures t A here).fails c.if-is_off.false in
          let B = due_begins A p k here still c.in-Due.is in
          let ends = c.next_end-end.ensures t k (timed A) B in
          let long = ap₂ ◌-◌ ends B.here in
          step_answer A p k c.in-Due.is B _ ends c.plan_intervals-after.result c.args.out.now _
          (c.plan_intervals-after.ensures t k _
          (due_plannable A p k here still c.in-Due.is (search rules) _ _ ends c.if-out-end.false))
          (step_done t (planner_of p) (length c.args.out.now) still k (ap stage_of c.in-Due.is)
          (omega (arith, long, c.if-out-end.false)));
      refused = tt;
    })
