-- `left` has the segments that the rows of the set before row i leave.
use Rattle.std.proofs.Common.{◌≡◌, not, ◌||◌}
use Rattle.numbers.specs.Lists.{at}
use Rattle.numbers.specs.Word.{bit}
use Rattle.meeting.proofs.Left.{left}
use Rattle.meeting.proofs.crowd.common.Given as goal

abbrev pub invariant-loop-i : goal.invariant-loop-i
invariant-loop-i l = l.left ≡ left l.elements l.i (λ k s. not (bit l.set k) || bit (at l.segments k) s)
