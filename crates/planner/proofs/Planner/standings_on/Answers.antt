-- standings_on: the refusal is the analysis's, or 15, or the standings are worked out.
use Rattle.std.proofs.Common.{◌≡◌, Ok}
use Rattle.std.proofs.lemmas.Result.{IfOk-at_ok}
use Rattle.rules.specs.Calls.{admitted}
use Rattle.planner.specs.State.{planner_of}
use Rattle.planner.proofs.CourseNumbers.{timed}
use Rattle.planner.proofs.Off.{still_bounded, state_keeps, state_reached}
use Rattle.planner.proofs.Checks.{standings_off, standings_done}
use Rattle.planner.proofs.Answering.{standings_answer, standings_refusal}
use Rattle.planner.proofs.Planner.standings_on.Goals as goal

pub returns-then-is_off : goal.returns-then-is_off
returns-then-is_off c =
    let w : c.args.analysed ≡ Ok c.in_ok-table.table = c.in_ok-table.was in
    rw (w, c.from.ensures)
    (record {
      done = λ t A.
          standings_refusal (admitted t) _ c.args.self
          (standings_off t (planner_of c.args.self)
          ((c.is_off.ensures t A (c.slot_reached-reached.ensures t (timed A))).holds c.if-is_off.true));
      refused = tt;
    })

pub standings-requires : goal.standings-requires
standings-requires c =
    let w = IfOk-at_ok _ c.in_ok-table.was c.requires in
    let here = c.slot_reached-reached.ensures w.0 (timed w.1) in
    let still = (c.is_off.ensures w.0 w.1 here).fails c.if-is_off.false in
    (still_bounded w.1 c.args.self here still, state_keeps w.1 c.args.self here still)

pub returns : goal.returns
returns c =
    let w : c.args.analysed ≡ Ok c.in_ok-table.table = c.in_ok-table.was in
    rw w
    (record {
      done = λ t A.
          let here = c.slot_reached-reached.ensures t (timed A) in
          let still = (c.is_off.ensures t A here).fails c.if-is_off.false in
          standings_answer A c.args.self _ (state_reached A c.args.self here still) c.standings.result
          (standings_done t (planner_of c.args.self) still) c.standings.ensures;
      refused = tt;
    })
