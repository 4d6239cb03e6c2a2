-- count: the moves of the word of slot `slot`.
use Rattle.std.proofs.Common.{arith, sym}
use Rattle.maker.proofs.Words.{moves_none, moves_length}
use Rattle.maker.proofs.moves.Picks.count.Goals as goal

pub loop-slot-init : goal.loop-slot-init
loop-slot-init c = (sym (moves_none c.args.self.into c.args.self.from c.args.plan.now), omega arith)

pub loop-slot-preserved : goal.loop-slot-preserved
loop-slot-preserved c =
    let a = c.args in
    let s = c.loop-slot.slot in
    let e = c.one-n.ensures in
    let f = c.one-n-in-loop-slot.ensures in (
      omega (arith, c.loop-slot.invariant.0, e.0 s 0, f.0 s 1, moves_length a.self.into a.self.from a.plan.now s),
      omega (arith, c.loop-slot.invariant.1, e.1, f.1),
    )
