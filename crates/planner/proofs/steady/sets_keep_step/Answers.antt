-- sets_keep_step: set after set keeps step.
use Rattle.std.proofs.Common.{arith, below_more}
use Rattle.numbers.specs.Lists.{at}
use Rattle.numbers.proofs.Truth.{decides_no}
use Rattle.planner.proofs.Keeping.{rate_le, total_le, set_rounded}
use Rattle.planner.proofs.steady.sets_keep_step.Goals as goal

pub sums_in-sums-requires : goal.sums_in-sums-requires
sums_in-sums-requires c =
    let b = c.requires.0 in
    (b.few, λ i l. (rate_le b i l, total_le b (at c.args.totals.now) c.requires.2 i l))

pub returns-then-not-is_rounded : goal.returns-then-not-is_rounded
returns-then-not-is_rounded c =
    let a = c.args in
    let s = c.sums_in-sums.ensures in
    decides_no (λ f. c.is_rounded.ensures.fails c.if-not-is_rounded.true
    ((set_rounded a.rows a.hyper a.slot (at a.words.now c.loop-k.k) (at a.rate.now) (at a.totals.now) s.0 s.2).1
    (f c.loop-k.k (omega arith))))

pub loop-k-preserved : goal.loop-k-preserved
loop-k-preserved c =
    let a = c.args in
    let s = c.sums_in-sums.ensures in
    below_more _ _ c.loop-k.invariant
    ((set_rounded a.rows a.hyper a.slot (at a.words.now c.loop-k.k) (at a.rate.now) (at a.totals.now) s.0 s.2).0
    (c.is_rounded.ensures.holds c.if-not-is_rounded.false))
