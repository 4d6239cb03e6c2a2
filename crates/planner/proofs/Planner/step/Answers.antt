-- step: the analysis answers the file's checks.
use Rattle.std.proofs.Common.{rules}
use Rattle.rules.specs.Calls.{file_ask}
use Rattle.planner.proofs.Asks.{file_proper, usable, step_asked}
use Rattle.planner.proofs.Planner.step.Goals as goal

pub step_on-requires : goal.step_on-requires
step_on-requires c = usable (file_ask _) c.analyse.ensures

pub returns : goal.returns
returns c =
    step_asked (file_ask _) (file_proper c.args.file.now).numbered c.analyse.ensures c.args.self _ _ _ (search rules) c.step_on.ensures
