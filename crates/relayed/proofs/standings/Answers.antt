-- standings: the analysis answers the file's checks with a relay.
use Rattle.rules.specs.Calls.{relayed_ask}
use Rattle.planner.proofs.Asks.{usable, standings_asked}
use Rattle.relayed.proofs.Checked.{relayed_numbered}
use Rattle.relayed.proofs.standings.Goals as goal

pub standings_on-requires : goal.standings_on-requires
standings_on-requires c = usable (relayed_ask _ _) c.analyse.ensures

pub returns : goal.returns
returns c = standings_asked (relayed_ask _ _) (relayed_numbered _ _) c.analyse.ensures c.args.p _ c.standings_on.ensures
