-- plain_plan: the analysis answers the file's checks.
use Rattle.rules.specs.Calls.{file_ask}
use Rattle.planner.proofs.Asks.{file_proper, usable, plan_asked}
use Rattle.planner.proofs.plain_plan.Goals as goal

pub plan_on-requires : goal.plan_on-requires
plan_on-requires c = usable (file_ask _) c.analyse.ensures

pub returns : goal.returns
returns c = plan_asked (file_ask _) (file_proper c.args.file.now).numbered c.analyse.ensures _ _ _ c.plan_on.ensures
