-- chain: the row before those that are chained.
use Rattle.std.proofs.Common.{◌≡◌, ◌+◌, ◌-◌, ◌<◌, arith}
use Rattle.numbers.specs.Lists.{at}
use Rattle.sets.specs.Chained.{all_heads}
use Rattle.sets.proofs.Chained.{chain_start, chain_more}
use Rattle.sets.proofs.chains.chain.Goals as goal

pub loop-i-init : goal.loop-i-init
loop-i-init c = rw (c.requires.2, c.requires.3) (chain_start _ _)

pub loop-i-preserved : goal.loop-i-preserved
loop-i-preserved c =
    let low : at c.args.first.now (c.loop-i.i - 1) < all_heads = c.requires.1 (c.loop-i.i - 1) (omega arith) in
    let up : c.loop-i.i - 1 + 1 ≡ c.loop-i.i = omega arith in
    rw up (chain_more c.loop-i.invariant (omega arith) (omega arith) (omega arith)
    c.end_at-element.ensures (omega (arith, c.end_at-element.ensures)))
