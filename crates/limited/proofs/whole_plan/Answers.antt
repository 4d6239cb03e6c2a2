-- whole_plan: the analysis answers the file's checks with limits.
use Rattle.rules.specs.Calls.{limited_ask}
use Rattle.planner.proofs.Asks.{usable, plan_asked}
use Rattle.limited.proofs.Checked.{limited_numbered}
use Rattle.limited.proofs.whole_plan.Goals as goal

pub plan_on-requires : goal.plan_on-requires
plan_on-requires c = usable (limited_ask _ _ _) c.analyse.ensures

pub returns : goal.returns
returns c =
    let a = c.args in
    plan_asked (limited_ask _ _ _) (limited_numbered a.file.now a.limits.ours a.limits.theirs) c.analyse.ensures _ _ _ c.plan_on.ensures
