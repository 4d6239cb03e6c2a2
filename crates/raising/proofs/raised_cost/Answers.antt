-- raised_cost: `div_ceil` rounds up.
use Rattle.std.proofs.Common.{ap, ◌∙◌, max}
use Rattle.verdict.proofs.Weighing.{ceil_up}
use Rattle.raising.proofs.raised_cost.Goals as goal

pub returns : goal.returns
returns c =
    let a = c.args in
    c.max.ensures ∙ ap (max a.cost) (c.div_ceil.ensures ∙ ceil_up a.period a.interval c.requires.0)
