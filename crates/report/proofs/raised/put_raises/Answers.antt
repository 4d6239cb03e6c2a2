use Rattle.std.proofs.Common.{◌≡◌, arith}
use Rattle.numbers.specs.Lists.{at}
use Rattle.decimal.proofs.Text.{lines_none}
use Rattle.report.proofs.RaisedLines.{lines_grown, lines_kept}
use Rattle.report.proofs.raised.put_raises.Goals as goal
use Rattle.report.proofs.raised.put_raises.Goals.{then-was-is, else-was-is}

pub loop-i-init : goal.loop-i-init
loop-i-init c = lines_none _ _ _

pub put_raise-next-requires : goal.put_raise-next-requires
put_raise-next-requires c =
    let p = c.requires in (
      omega (arith, p.few),
      omega (arith, c.slots_at-was.ensures, p.was c.loop-i.i (omega arith)),
      omega (arith, c.slots_at-is.ensures, p.is c.loop-i.i (omega arith)),
      omega (arith, p.few, c.loop-i.invariant.1),
    )

pub loop-i-preserved : goal.loop-i-preserved
loop-i-preserved c =
    let old = at c.args.old.now in
    let new = at c.args.new.now in
    let P = c.loop-i.invariant in
    elim c.if-was-is.branch [
      | then-was-is w ↦
          rw (w.out-is, w.next-is)
          (lines_grown old new c.loop-i.i P _ _ c.slots_at-was.ensures c.slots_at-is.ensures w.if-was-is.true w.put_raise-next.ensures)
      | else-was-is w ↦
          rw (w.out-is, w.next-is)
          (lines_kept old new c.loop-i.i P _ _ c.slots_at-was.ensures c.slots_at-is.ensures w.if-was-is.false)
    ]

pub returns : goal.returns
returns c =
    let all : c.loop-i.i ≡ c.args.rows = omega arith in
    rw all at c.loop-i.invariant
