-- plan_on: the refusal is the analysis's, or 17, or the plan is that of all intervals.
use Rattle.std.proofs.Common.{◌≡◌, Ok, Err, arith, refl}
use Rattle.std.proofs.lemmas.Result.{IfOk-at_ok}
use lib.ListN.{length}
use Rattle.rules.specs.Loads.{intervals}
use Rattle.rules.specs.Calls.{admitted}
use Rattle.table.proofs.Reasons.{handed}
use Rattle.planner.proofs.CourseNumbers.{hyper_is}
use Rattle.planner.proofs.Checks.{plan_short, plan_done}
use Rattle.planner.proofs.Laying.{whole_plannable}
use Rattle.planner.proofs.Answering.{plan_refusal, plan_answer}
use Rattle.planner.proofs.plan_on.Goals as goal

pub returns-in_err-table : goal.returns-in_err-table
returns-in_err-table c =
    let w : c.args.analysed ≡ Err c.in_err-table.field-0.0 = c.in_err-table.was in
    rw (w, handed c.in_err-table.field-0.0 c.from_residual.ensures.1) (record { done = tt; refused = (refl, refl) })

pub returns-then-plan-hyper : goal.returns-then-plan-hyper
returns-then-plan-hyper c =
    let w : c.args.analysed ≡ Ok c.in_ok-table.table = c.in_ok-table.was in
    rw (w, c.from.ensures)
    (record {
      done = λ t A.
          plan_refusal (admitted t) _ _
          (plan_short t (length c.args.plan.now) (omega (arith, hyper_is A, c.if-plan-hyper.true)));
      refused = tt;
    })

pub plan_intervals-requires : goal.plan_intervals-requires
plan_intervals-requires c =
    let w = IfOk-at_ok _ c.in_ok-table.was c.requires in
    (w.0, 0, intervals w.0, whole_plannable w.1 _ c.if-plan-hyper.false)

pub returns : goal.returns
returns c =
    let w : c.args.analysed ≡ Ok c.in_ok-table.table = c.in_ok-table.was in
    rw w
    (record {
      done = λ t A.
          plan_answer A c.args.plan.now _ c.plan_intervals.result _ refl
          (c.plan_intervals.ensures t 0 (intervals t) (whole_plannable A _ c.if-plan-hyper.false))
          (plan_done t (length c.args.plan.now) (omega (arith, hyper_is A, c.if-plan-hyper.false)));
      refused = tt;
    })
