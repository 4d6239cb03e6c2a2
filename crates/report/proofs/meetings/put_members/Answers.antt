use Rattle.std.proofs.Common.{◌≡◌, ◌+◌, arith}
use Rattle.decimal.proofs.Text.{lines_none, lines_next, lines_skip}
use Rattle.report.specs.MeetLines.{numbered}
use Rattle.report.proofs.Members.{member_line, no_line}
use Rattle.report.proofs.meetings.put_members.Goals as goal
use Rattle.report.proofs.meetings.put_members.Goals.{then-word-k-eq1, else-word-k-eq1}

pub loop-k-init : goal.loop-k-init
loop-k-init c = lines_none _ _ _

pub loop-k-preserved : goal.loop-k-preserved
loop-k-preserved c =
    let z = c.args in
    let k = c.loop-k.k in
    let line = numbered z.name.now (z.first + k) in
    elim c.if-word-k-eq1.branch [
      | then-word-k-eq1 w ↦
          rw (w.out-is, w.next-is)
          (lines_next _ k c.loop-k.invariant line (member_line line z.word k w.if-word-k-eq1.true) w.put_value-next.ensures)
      | else-word-k-eq1 w ↦
          rw (w.out-is, w.next-is) (lines_skip _ k c.loop-k.invariant (no_line line z.word k w.if-word-k-eq1.false))
    ]

pub returns : goal.returns
returns c =
    let all : c.loop-k.k ≡ c.args.bits = omega arith in
    rw all at c.loop-k.invariant
