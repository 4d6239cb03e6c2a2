-- standings: the analysis answers the file's checks.
use Rattle.rules.specs.Calls.{file_ask}
use Rattle.planner.proofs.Asks.{file_proper, usable, standings_asked}
use Rattle.planner.proofs.Planner.standings.Goals as goal

pub standings_on-requires : goal.standings_on-requires
standings_on-requires c = usable (file_ask _) c.analyse.ensures

pub returns : goal.returns
returns c = standings_asked (file_ask _) (file_proper c.args.file.now).numbered c.analyse.ensures c.args.self _ c.standings_on.ensures
