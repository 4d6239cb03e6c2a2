use Rattle.std.proofs.Common.{◌≡◌, [], ◌∷◌, length, refl, arith}
use Rattle.numbers.specs.Lists.{at}
use Rattle.decimal.proofs.Text.{lines_none, lines_next}
use Rattle.report.specs.Rendered.{word_line}
use Rattle.report.proofs.put_words.Goals as goal

pub loop-k-init : goal.loop-k-init
loop-k-init c = lines_none (λ i. word_line c.args.slots i (at c.args.words.now i) ∷ []) _ _

pub loop-k-preserved : goal.loop-k-preserved
loop-k-preserved c =
    lines_next (λ i. word_line c.args.slots i (at c.args.words.now i) ∷ []) c.loop-k.k c.loop-k.invariant _ refl c.put_word-next.ensures

pub returns : goal.returns
returns c =
    let e : c.loop-k.k ≡ length c.args.words.now = omega arith in
    rw e at c.loop-k.invariant
