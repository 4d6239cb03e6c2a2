-- step: the analysis answers the file's checks with limits.
use Rattle.std.proofs.Common.{rules}
use Rattle.rules.specs.Calls.{limited_ask}
use Rattle.planner.proofs.Asks.{usable, step_asked}
use Rattle.limited.proofs.Checked.{limited_numbered}
use Rattle.limited.proofs.step.Goals as goal

pub step_on-requires : goal.step_on-requires
step_on-requires c = usable (limited_ask _ _ _) c.analyse.ensures

pub returns : goal.returns
returns c =
    let a = c.args in
    step_asked (limited_ask _ _ _) (limited_numbered a.file.now a.limits.ours a.limits.theirs) c.analyse.ensures a.p _ _ _
    (search rules) c.step_on.ensures
