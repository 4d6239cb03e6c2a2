use Rattle.std.proofs.Common.{◌≡◌, [], ◌∷◌, ap, arith}
use Rattle.rules.specs.TableFile.{memory_labelled_with}
use Rattle.rules.specs.Text.{Line}
use Rattle.decimal.proofs.Text.{lines_none, lines_next}
use Rattle.grammar.specs.TableText.{row_line}
use Rattle.text_writer.proofs.Rows.{number_line_lem}
use Rattle.text_writer.proofs.put_rows.Goals as goal

pub loop-i-init : goal.loop-i-init
loop-i-init c =
    let a = c.args in
    lines_none (λ k. row_line a.version (memory_labelled_with a.rings 0 a.rows a.numbers.now) k ∷ []) _ _

pub loop-i-preserved : goal.loop-i-preserved
loop-i-preserved c =
    let a = c.args in
    let i = c.loop-i.i in
    lines_next (λ k. row_line a.version (memory_labelled_with a.rings 0 a.rows a.numbers.now) k ∷ []) i c.loop-i.invariant _
    (ap (λ (l : Line). l ∷ []) (number_line_lem a.rings a.version a.rows a.numbers.now i c.row_of.result (c.row_of.ensures 0 a.rows)))
    c.put_row-next.ensures

pub returns : goal.returns
returns c =
    let e : c.loop-i.i ≡ c.args.rows = omega arith in
    rw e at c.loop-i.invariant
