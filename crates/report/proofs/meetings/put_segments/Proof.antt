-- `meetings::put_segments` meets its contract.
use mathlib.Core.Path.{ap}
use Prim.Native.Nat.{suc, ◌+◌}
use native.Mathlib.Numerals.{one-add}
use borrow.Author.Rules.{rules}
use Rattle.rules.specs.Bounds.{max_elements}
use Rattle.rules.specs.Program.{segment}
use Rattle.report.proofs.Members.{put_same}
use Rattle.report.proofs.meetings.put_segments.Statement.{statement}
use Rattle.report.proofs.meetings.put_segments.Tie as tie

put-members-requires : tie.Need-put_members-requires
put-members-requires c κs = search rules

same_length : tie.Need-shape_of-out
same_length c = search rules

returns : tie.Need-returns
returns c =
    put_same (λ k. segment (1 + k)) (λ k. segment (suc k)) max_elements _ (λ k. ap segment (one-add k))
    c.put_members.ensures

pub put_segments_spec : {M : Type 1} → statement M
put_segments_spec = tie.close (tie.spec
    put-members-requires
    same_length
    returns)
