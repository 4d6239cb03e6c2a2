-- `meetings::put_rows` meets its contract.
use mathlib.Core.Path.{ap}
use Prim.Native.Nat.{◌+◌}
use native.Mathlib.Nat.{zero-add}
use borrow.Author.Rules.{rules}
use Rattle.rules.specs.Bounds.{max_rows}
use Rattle.rules.specs.Program.{row}
use Rattle.report.proofs.Members.{put_same}
use Rattle.report.proofs.meetings.put_rows.Statement.{statement}
use Rattle.report.proofs.meetings.put_rows.Tie as tie

put-members-requires : tie.Need-put_members-requires
put-members-requires c κs = search rules

same_length : tie.Need-shape_of-out
same_length c = search rules

returns : tie.Need-returns
returns c =
    put_same (λ k. row (0 + k)) row max_rows _ (λ k. ap row (zero-add k))
    c.put_members.ensures

pub put_rows_spec : {M : Type 1} → statement M
put_rows_spec = tie.close (tie.spec
    put-members-requires
    same_length
    returns)
