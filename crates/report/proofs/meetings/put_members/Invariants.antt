-- The lines of the first k bits are put.
use Rattle.std.proofs.Common.{◌+◌}
use Rattle.decimal.specs.Puts.{PutsLines}
use Rattle.report.specs.MeetLines.{numbered, member_lines}
use Rattle.report.proofs.meetings.put_members.Given as goal

abbrev pub invariant-loop-k : goal.invariant-loop-k
invariant-loop-k l =
    PutsLines (member_lines (λ i. numbered l.name (l.first + i)) l.k l.word) l.k l.initial.out l.at l.out l.next
