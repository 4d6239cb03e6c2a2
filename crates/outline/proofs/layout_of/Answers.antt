-- layout_of: what is laid, or its refusal.
use Rattle.table.proofs.Reasons.{handed}
use Rattle.outline.proofs.Laying.{laid_in}
use Rattle.outline.proofs.layout_of.Goals as goal

pub returns-in_err-lay_into : goal.returns-in_err-lay_into
returns-in_err-lay_into c cost s =
    rw (handed c.in_err-lay_into.field-0.0 c.from_residual.ensures.1)
    (record { answers = (c.in_err-lay_into.ensures cost s).answers; found = tt })

pub returns : goal.returns
returns c cost s = laid_in (c.in_ok-lay_into.ensures cost s)
