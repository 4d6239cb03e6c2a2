use Rattle.std.proofs.Common.{sym, ap₂, ◌∙◌, bit_and}
use Rattle.ring.specs.Rows.{rings_of}
use Rattle.ring.proofs.Words.{both_segments, no_segments}
use Rattle.ring.proofs.shared.Goals as goal

pub returns-then-end_at : goal.returns-then-end_at
returns-then-end_at c n =
    no_segments (rings_of c.args.table.now n) c.args.i c.args.j (λ e. c.if-end_at.true (c.end_at.ensures ∙ e ∙ sym c.end_at-2.ensures))

pub returns : goal.returns
returns c n =
    ap₂ bit_and c.segments_at.ensures c.segments_at-2.ensures
    ∙ both_segments (rings_of c.args.table.now n) c.args.i c.args.j (sym c.end_at.ensures ∙ c.if-end_at.false ∙ c.end_at-2.ensures)
