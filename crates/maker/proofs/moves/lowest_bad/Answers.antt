-- lowest_bad: the word of slot `slot` is bad, or not.
use Rattle.std.proofs.Common.{arith}
use Rattle.maker.proofs.Bad.{clean_start, clean_next, clean_found, clean_past, clean_end}
use Rattle.maker.proofs.moves.lowest_bad.Goals as goal

pub loop-slot-init : goal.loop-slot-init
loop-slot-init c = λ t e l. clean_start t c.args.plan.now

pub returns-then-slot-plan : goal.returns-then-slot-plan
returns-then-slot-plan c = λ t e l. clean_past t _ _ _ (c.loop-slot.invariant t e l) c.if-slot-plan.true

pub returns-then-is_bad : goal.returns-then-is_bad
returns-then-is_bad c = λ t e l.
    clean_found t _ _ _ (c.loop-slot.invariant t e l) (omega arith) ((c.is_bad.ensures t e l).holds c.if-is_bad.true)

pub loop-slot-preserved : goal.loop-slot-preserved
loop-slot-preserved c = λ t e l. clean_next t _ _ (c.loop-slot.invariant t e l) ((c.is_bad.ensures t e l).fails c.if-is_bad.false)

pub returns : goal.returns
returns c = λ t e l. clean_end t _ _ _ (c.loop-slot.invariant t e l) (omega arith)
