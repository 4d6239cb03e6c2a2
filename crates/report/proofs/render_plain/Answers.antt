-- render_plain: the verdict's line where it refuses, else the slot lines of both planners.
use Rattle.report.proofs.Printed.{line_told}
use Rattle.report.proofs.Plain.{rendered_refused, rendered_admitted}
use Rattle.report.proofs.render_plain.Goals as goal

pub returns-in_default : goal.returns-in_default
returns-in_default c =
    rendered_refused _ c.in_default.field-0 c.in_default.ensures.answers (line_told c.in_default.is c.put_judged.ensures)

pub returns : goal.returns
returns c =
    let A = c.in-Ok.ensures in
    rendered_admitted _ A.answers (c.put_plan-next.ensures _ A.found) (c.put_plan.ensures _ A.found)
