-- whole_plan: the analysis answers the file's checks with a relay.
use Rattle.rules.specs.Calls.{relayed_ask}
use Rattle.planner.proofs.Asks.{usable, plan_asked}
use Rattle.relayed.proofs.Checked.{relayed_numbered}
use Rattle.relayed.proofs.whole_plan.Goals as goal

pub plan_on-requires : goal.plan_on-requires
plan_on-requires c = usable (relayed_ask _ _) c.analyse.ensures

pub returns : goal.returns
returns c = plan_asked (relayed_ask _ _) (relayed_numbered _ _) c.analyse.ensures _ _ _ c.plan_on.ensures
