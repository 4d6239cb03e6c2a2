-- `step` reaches the node, or leaves all as it is.
use Rattle.loads.proofs.Words.{bit_none, bit_some}
use Rattle.loads.proofs.Ways.{entered_not, entered_on}
use Rattle.loads.proofs.flow.step.Goals as goal

pub returns-then-sets-u-eq0 : goal.returns-then-sets-u-eq0
returns-then-sets-u-eq0 c =
    let a = c.args in
    (c.requires.2, entered_not a.seen _ _ a.p a.way (bit_none a.sets a.u c.if-sets-u-eq0.true))

pub reach-requires : goal.reach-requires
reach-requires c = (c.requires.1 (bit_some c.args.sets c.args.u c.if-sets-u-eq0.false), c.requires.2)

pub returns : goal.returns
returns c = (c.reach.ensures.0, entered_on _ _ _ _ _ _ _ (bit_some c.args.sets c.args.u c.if-sets-u-eq0.false) c.reach.ensures.1)
