-- fill_plain: an element more, and a row more that starts there.
use Rattle.std.proofs.Common.{◌-◌, ◌<◌, refl, arith}
use Rattle.sets.proofs.Chained.{link_row, rest_less}
use Rattle.placing.proofs.Kept.{kept_trans}
use Rattle.slots.proofs.PlainWalk.{coming_start, coming_end, along_start, along_more, along_end}
use Rattle.slots.proofs.plain.fill_plain.Goals as goal

pub loop-element-init : goal.loop-element-init
loop-element-init c = (c.clear.ensures.kept, λ n O. coming_start (λ j h. (O.line j h).0) c.clear.ensures)

pub loop-r-init : goal.loop-r-init
loop-r-init c = (
  c.loop-element.invariant.0,
  λ n O.
      along_start (c.loop-element.invariant.1 n O)
      (O.chained.heads c.loop-element.element (omega (arith, O.low, c.loop-element-test.true))),
)

pub slots_at-requires : goal.slots_at-requires
slots_at-requires c =
    let O = c.requires.0.1 in
    omega (arith, link_row (c.loop-r.invariant.1 _ O).link, O.few, c.loop-r-test.true)

pub place_row-requires : goal.place_row-requires
place_row-requires c =
    let O = c.requires.0.1 in (
      omega (arith, link_row (c.loop-r.invariant.1 _ O).link, O.few, c.loop-r-test.true),
      omega (arith, c.requires.1, c.loop-r.invariant.0.long),
    )

pub bounds-next-i : goal.bounds-next-i
bounds-next-i c =
    let O = c.requires.0.1 in
    omega (arith, link_row (c.loop-r.invariant.1 _ O).link, O.few, c.loop-r-test.true)

pub loop-r-smaller : goal.loop-r-smaller
loop-r-smaller c =
    let O = c.requires.0.1 in
    let m = link_row (c.loop-r.invariant.1 _ O).link in
    rest_less (O.chained.nexts (c.loop-r.r - 1) (omega arith) (omega (arith, c.loop-r-test.true))) O.few
    (omega (arith, c.loop-r-test.true)) (omega arith) m

pub loop-r-preserved : goal.loop-r-preserved
loop-r-preserved c =
    let P = rw c.slots_at.ensures at c.place_row.ensures in (
      kept_trans c.loop-r.invariant.0 P.kept,
      λ n O.
          let A = c.loop-r.invariant.1 n O in
          let some : 0 < c.loop-r.r = omega (arith, c.loop-r-test.true) in
          along_more O.few A some refl (O.chained.nexts (c.loop-r.r - 1) (omega arith) (omega (arith, link_row A.link))) P,
    )

pub loop-element-preserved : goal.loop-element-preserved
loop-element-preserved c = (c.loop-r.invariant.0, λ n O. along_end (c.loop-r.invariant.1 n O) c.loop-r-test.false)

pub returns : goal.returns
returns c n O =
    let K = c.loop-element.invariant.0 in
    coming_end (c.loop-element.invariant.1 n O) (λ j h. omega (arith, O.line j h, c.loop-element-test.false)) K
    (omega (arith, c.requires.1, K.long))
