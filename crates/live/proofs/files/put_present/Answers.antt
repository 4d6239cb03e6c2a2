-- `files::put_present` meets its contract: place after place, the row that it holds is put after those before.
use Rattle.std.proofs.Common.{sym, ◌∙◌, arith}
use Rattle.live.proofs.Present.{packing_start, packing_free, packing_held, packing_end}
use Rattle.live.proofs.files.put_present.Goals as goal
use Rattle.live.proofs.files.put_present.Goals.{then-slots_at-ne0, else-slots_at-ne0}

pub loop-i-init : goal.loop-i-init
loop-i-init c = packing_start _

pub loop-i-preserved : goal.loop-i-preserved
loop-i-preserved c =
    elim c.if-slots_at-ne0.branch [
      | then-slots_at-ne0 w ↦
          rw (w.out-is, w.rows-is)
          (packing_held c.loop-i.invariant (omega arith) (λ e. w.if-slots_at-ne0.true (c.slots_at.ensures ∙ e)) c.requires
          w.row_at.ensures w.put_numbers.ensures)
      | else-slots_at-ne0 w ↦
          rw (w.out-is, w.rows-is)
          (packing_free c.loop-i.invariant (omega arith) (sym c.slots_at.ensures ∙ w.if-slots_at-ne0.false))
    ]

pub returns : goal.returns
returns c = packing_end c.loop-i.invariant (omega arith)
