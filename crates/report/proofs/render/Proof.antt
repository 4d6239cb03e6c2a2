-- render: what is printed of the analysis of what is read.
use borrow.Author.Rules.{rules}
use native.Mathlib.Omega.{arith}
use mathlib.Core.Path.{sym, subst}
use mathlib.Core.List.{List}
use Prim.Native.Nat.{ℕ}
use lib.ListN.{take}
use lib.Seq.{length-take-le}
use Rattle.rules.specs.Calls.{file_ask}
use Rattle.verdict.proofs.Bound.{verdict_numbered}
use Rattle.planner.proofs.Asks.{usable}
use Rattle.report.specs.Rendered.{RenderedFor}
use Rattle.report.proofs.Printed.{read_input, rendered_asked}
use Rattle.report.proofs.render.Statement.{statement}
use Rattle.report.proofs.render.Tie as tie

abbrev entry : tie.After-min-read → tie.Start
entry z = z.before.before.before

abbrev file : tie.After-min-read → List ℕ
file z = take z.min-read.result (entry z).args.input.now

min-requires : tie.Need-min-read-requires
min-requires c κs = search rules

slice-aggregate-analyse : tie.Need-slice_bounds-analyse-end
slice-aggregate-analyse c = sym (length-take-le _ _ (omega arith))

analyse-requires : tie.Need-analyse-requires
analyse-requires c κs = search rules

put-analysis-requires : tie.Need-put_analysis-requires
put-analysis-requires c κs = usable (file_ask _) c.analyse.ensures

same_length : tie.Need-shape_of-out
same_length c = search rules

returns : tie.Need-returns
returns c =
    let z = c.before.before.before.before.before in
    let a = (entry z).args in
    let w = c.put_analysis in
    subst (λ (f : List ℕ). RenderedFor (file_ask f) a.out.now w.new.out w.result)
    (read_input a.input.now _ z.min-read.ensures)
    (rendered_asked (file_ask (file z)) (verdict_numbered (file z)) c.analyse.ensures a.out.now _ _ w.ensures)

pub render_spec : {M : Type 1} → statement M
render_spec =
    tie.close (tie.spec min-requires slice-aggregate-analyse analyse-requires put-analysis-requires same_length returns)
