-- rates_at: row after row is added to the sums at its ends.
use Rattle.std.proofs.Common.{arith}
use Rattle.verdict.proofs.Line.{sums_start, sums_next, sums_fit}
use Rattle.verdict.proofs.weights.rates_at.Goals as goal

pub loop-i-init : goal.loop-i-init
loop-i-init c = (rw c.requires.2 (sums_start _ _), rw c.requires.3 (sums_start _ _))

pub overflow_add-joining : goal.overflow_add-joining
overflow_add-joining c =
    let R = c.requires.0 in
    let on = (c.requires.1 c.loop-i.i (omega arith)).0 in
    omega (
      arith,
      sums_fit c.end_at-from.result c.slots_at-more.result c.loop-i.invariant.0 R.small (omega arith) R.few
          (omega (arith, c.end_at-from.ensures, on)) c.slots_at-more.ensures,
    )

pub overflow_add-leaving : goal.overflow_add-leaving
overflow_add-leaving c =
    let R = c.requires.0 in
    let on = (c.requires.1 c.loop-i.i (omega arith)).1 in
    omega (
      arith,
      sums_fit c.end_at-to.result c.slots_at-more.result c.loop-i.invariant.1 R.small (omega arith) R.few
          (omega (arith, c.end_at-to.ensures, on)) c.slots_at-more.ensures,
    )

pub loop-i-preserved : goal.loop-i-preserved
loop-i-preserved c =
    let u = c.loop-i in
    let on = c.requires.1 u.i (omega arith) in (
      sums_next _ _ u.invariant.0 c.end_at-from.ensures c.slots_at-more.ensures (omega (arith, c.end_at-from.ensures, on.0)),
      sums_next _ _ u.invariant.1 c.end_at-to.ensures c.slots_at-more.ensures (omega (arith, c.end_at-to.ensures, on.1)),
    )
