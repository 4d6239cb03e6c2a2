-- put_analysis: past the verdict's line, the lines of the table's values, sets and slots.
use Rattle.report.proofs.Printed.{line_told, on_admitted}
use Rattle.report.proofs.put_analysis.Goals as goal

pub returns : goal.returns
returns c =
    rw c.in-Ok.is
    (on_admitted c.in-Ok.table (line_told c.in-Ok.is c.put_judged-first.ensures) c.put_cuts-parted.ensures c.put_values-valued.ensures
    c.put_list-listed.ensures c.put_plan.ensures)
