-- step: the analysis answers the file's checks with a relay.
use Rattle.std.proofs.Common.{rules}
use Rattle.rules.specs.Calls.{relayed_ask}
use Rattle.planner.proofs.Asks.{usable, step_asked}
use Rattle.relayed.proofs.Checked.{relayed_numbered}
use Rattle.relayed.proofs.step.Goals as goal

pub step_on-requires : goal.step_on-requires
step_on-requires c = usable (relayed_ask _ _) c.analyse.ensures

pub returns : goal.returns
returns c =
    step_asked (relayed_ask _ _) (relayed_numbered _ _) c.analyse.ensures c.args.p _ _ _ (search rules) c.step_on.ensures
