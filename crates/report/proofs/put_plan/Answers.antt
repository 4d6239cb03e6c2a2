-- put_plan: an analysed table's plan fits, and is written line by line.
use Rattle.std.proofs.Common.{arith, refl}
use Rattle.report.proofs.Printed.{planned_on}
use Rattle.report.proofs.put_plan.Goals as goal

pub returns : goal.returns
returns c t A =
    let F = planned_on c.requires.0 (omega arith) refl c.plan_on.ensures in
    let P = c.put_words.ensures in
    (_, F.2 t A, (P.0, omega (arith, P.1, F.0, F.1)))
