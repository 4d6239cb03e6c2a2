-- `upper_rows` has the word of the rows that it has passed.
use Rattle.std.proofs.Common.{ltb, sym, ap}
use Rattle.loads.proofs.Comparing.{word_zero, word_more}
use Rattle.interval.proofs.fold.upper_rows.Goals as goal

pub loop-i-init : goal.loop-i-init
loop-i-init c = word_zero _

pub loop-i-preserved : goal.loop-i-preserved
loop-i-preserved c =
    let u = c.loop-i in
    word_more u.i u.upper _ _ _ u.invariant c.mark-upper.ensures (ap (ltb c.args.bound) (sym c.end_at.ensures))
