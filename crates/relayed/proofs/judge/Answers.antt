-- judge: the analysis answers the checks with a relay, and the verdict is what it amounts to.
use Rattle.rules.specs.Calls.{relayed_ask}
use Rattle.planner.proofs.Asks.{usable}
use Rattle.verdict.proofs.Judging.{judged_on}
use Rattle.relayed.proofs.Checked.{relayed_numbered}
use Rattle.relayed.proofs.judge.Goals as goal

pub verdict_of-requires : goal.verdict_of-requires
verdict_of-requires c = usable (relayed_ask _ _) c.analyse.ensures

pub returns : goal.returns
returns c = judged_on (relayed_numbered _ _) c.analyse.ensures c.verdict_of.ensures
