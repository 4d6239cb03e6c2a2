-- thousandths: `div_ceil` rounds up.
use Rattle.std.proofs.Common.{◌*◌, ◌∙◌}
use Rattle.verdict.proofs.Weighing.{ceil_up}
use Rattle.verdict.proofs.weights.thousandths.Goals as goal

pub returns : goal.returns
returns c = c.div_ceil.ensures ∙ ceil_up (1000 * c.args.load) c.args.hyper c.requires.1
