-- judge: the analysis answers the checks with limits, and the verdict is what it amounts to.
use Rattle.verdict.proofs.Judging.{judged_on}
use Rattle.rules.specs.Calls.{limited_ask}
use Rattle.planner.proofs.Asks.{usable}
use Rattle.limited.proofs.Checked.{limited_numbered}
use Rattle.limited.proofs.judge.Goals as goal

pub verdict_of-requires : goal.verdict_of-requires
verdict_of-requires c = usable (limited_ask _ _ _) c.analyse.ensures

pub returns : goal.returns
returns c =
    let a = c.args in
    judged_on (limited_numbered a.file.now a.limits.ours a.limits.theirs) c.analyse.ensures c.verdict_of.ensures
