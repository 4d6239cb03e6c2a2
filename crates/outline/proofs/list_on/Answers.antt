-- list_on: the refusal is the outline's, or 17, or the words are written.
use Rattle.std.proofs.Common.{◌≡◌, Ok, Err, refl}
use Rattle.table.proofs.Reasons.{handed}
use Rattle.outline.proofs.Listed.{on_short, on_done}
use Rattle.outline.proofs.list_on.Goals as goal

pub returns-in_err-table : goal.returns-in_err-table
returns-in_err-table c =
    let w : c.args.outlined ≡ Err c.in_err-table.field-0.0 = c.in_err-table.was in
    rw (w, handed c.in_err-table.field-0.0 c.from_residual.ensures.1) (record { done = tt; refused = (refl, refl) })

pub returns-then-out-sets : goal.returns-then-out-sets
returns-then-out-sets c =
    let w : c.args.outlined ≡ Ok c.in_ok-table.table = c.in_ok-table.was in
    rw (w, c.from.ensures) (record { done = λ t F. on_short _ F c.if-out-sets.true; refused = tt })

pub returns : goal.returns
returns c =
    let w : c.args.outlined ≡ Ok c.in_ok-table.table = c.in_ok-table.was in
    rw w (record { done = λ t F. on_done _ F _ c.if-out-sets.false c.write_front.ensures; refused = tt })
