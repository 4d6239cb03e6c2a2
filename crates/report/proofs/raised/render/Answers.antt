-- `raised::render` meets its contract: the refusal's line, or those of the raised rows and of the verdict on the raised file.
use Rattle.std.proofs.Common.{List, ℕ, arith, refl, sym, subst}
use lib.Seq.{length-take-le}
use Rattle.verdict.specs.Verdict.{IsVerdict}
use Rattle.report.proofs.Printed.{line_told}
use Rattle.report.proofs.RaisedLines.{rendered_refused, report_costs, report_long, report_file, rendered_raised}
use Rattle.report.proofs.raised.render.Goals as goal

pub returns-in_default : goal.returns-in_default
returns-in_default c =
    rendered_refused _ c.in_default.field-0 c.in_default.ensures.answers (line_told c.in_default.is c.put_judged.ensures)

pub slice_bounds-raised-end : goal.slice_bounds-raised-end
slice_bounds-raised-end c = omega (arith, report_long _ _ c.in-Ok.ensures, c.raise.auto)

pub slice_bounds-judge-end : goal.slice_bounds-judge-end
slice_bounds-judge-end c = sym (length-take-le _ _ (omega (arith, report_long _ _ c.in-Ok.ensures, c.raise.auto)))

pub put_raises-next-requires : goal.put_raises-next-requires
put_raises-next-requires c = report_costs _ _ c.in-Ok.ensures

pub returns : goal.returns
returns c =
    let R = c.in-Ok.ensures in
    let r = c.judge-result.result in
    let file = report_file _ _ R refl c.raise.ensures in
    rendered_raised _ _ R r (subst (λ (xs : List ℕ). IsVerdict xs r) file c.judge-result.ensures) c.put_raises-next.ensures
    c.put_result.ensures
