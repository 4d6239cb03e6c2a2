-- standings: they go up the rows.
use Rattle.std.proofs.Common.{◌∙◌, arith}
use mir.Syntax.{w64}
use mir.ValLaws.{to_z-of_z}
use Rattle.numbers.specs.Lists.{at}
use Rattle.planner.proofs.Keeping.{products_le, standing_start, standing_next}
use Rattle.planner.proofs.steady.standings.Goals as goal

pub loop-i-init : goal.loop-i-init
loop-i-init c = standing_start _ _ _ _ _

pub overflow_mul-totals : goal.overflow_mul-totals
overflow_mul-totals c =
    let p = c.requires in
    omega (arith, products_le p.0 (at c.args.totals.now) p.1 c.loop-i.i (omega arith))

pub less-requires : goal.less-requires
less-requires c =
    let p = c.requires in
    let fits = products_le p.0 (at c.args.totals.now) p.1 c.loop-i.i (omega arith) in
    (omega (arith, fits), rw c.slots_at.ensures (omega (arith, fits)))

pub loop-i-preserved : goal.loop-i-preserved
loop-i-preserved c =
    standing_next _ _ _ _ _ _ c.loop-i.invariant (omega arith) c.requires.0.few
    (to_z-of_z w64 c.less.result (record { sfits = c.less.type_inv }) ∙ (rw c.slots_at.ensures at c.less.ensures))
