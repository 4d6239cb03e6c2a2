-- `crowd::common` meets its contract.
use Rattle.std.proofs.Common.{◌≡◌, arith}
use Rattle.numbers.specs.Lists.{at}
use Rattle.numbers.specs.Word.{bit}
use Rattle.meeting.proofs.Left.{left_start, left_kept, left_same, in_set, not_in_set}
use Rattle.meeting.proofs.crowd.common.Goals as goal
use Rattle.meeting.proofs.crowd.common.Goals.{then-set-i-eq1, else-set-i-eq1}

pub loop-i-init : goal.loop-i-init
loop-i-init c = left_start _ c.all_segments-left.ensures

pub loop-i-preserved : goal.loop-i-preserved
loop-i-preserved c =
    let u = c.loop-i in
    let z = c.args in
    let word = at z.segments.now u.i in
    elim c.if-set-i-eq1.branch [
      | then-set-i-eq1 w ↦ rw w.left-is
          (left_kept z.elements u.i _ word u.invariant (λ s. in_set (bit word s) z.set u.i w.if-set-i-eq1.true))
      | else-set-i-eq1 w ↦ rw w.left-is
          (left_same z.elements u.i _ u.invariant (λ s. not_in_set (bit word s) z.set u.i w.if-set-i-eq1.false))
    ]

pub returns : goal.returns
returns c =
    let all : c.loop-i.i ≡ c.args.rows = omega arith in
    rw all at c.loop-i.invariant
