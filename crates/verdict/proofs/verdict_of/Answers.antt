-- verdict_of: its values fit, as a table's elements, slots, sets and thousandths are few.
use Rattle.std.proofs.Common.{arith}
use Rattle.std.proofs.lemmas.Result.{IfOk-at_ok}
use Rattle.lags.proofs.Intervals.{shortest_le}
use Rattle.rules.specs.Bus.{clockwise, counterclockwise}
use Rattle.outline.proofs.Cuts.{board_high}
use Rattle.verdict.proofs.Judging.{accepted_small}
use Rattle.verdict.proofs.verdict_of.Goals as goal

pub overflow_cast-result : goal.overflow_cast-result
overflow_cast-result c =
    let F = (IfOk-at_ok _ c.in_ok-table.was c.requires).1.outline in
    let s = F.timed.sound in
    omega (arith, F.cut, board_high s F.clear clockwise, s.elements_high)

pub overflow_cast-result-2 : goal.overflow_cast-result-2
overflow_cast-result-2 c =
    let F = (IfOk-at_ok _ c.in_ok-table.was c.requires).1.outline in
    let s = F.timed.sound in
    omega (arith, F.other, board_high s F.clear counterclockwise, s.elements_high)

pub overflow_cast-result-3 : goal.overflow_cast-result-3
overflow_cast-result-3 c =
    let T = (IfOk-at_ok _ c.in_ok-table.was c.requires).1.outline.timed in
    omega (arith, T.interval, shortest_le T.sound, T.short)

pub overflow_cast-result-5 : goal.overflow_cast-result-5
overflow_cast-result-5 c = omega (arith, accepted_small (IfOk-at_ok _ c.in_ok-table.was c.requires).1)
