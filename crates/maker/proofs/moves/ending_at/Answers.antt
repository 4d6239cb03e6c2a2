-- ending_at: the bit of row `i`.
use Rattle.std.proofs.Common.{arith, ℕ, Bool, sym, ◌∙◌}
use lib.Dec.{eqb, eqb→eq}
use Rattle.numbers.specs.Lists.{at}
use Rattle.numbers.proofs.Truth.{eqb_of}
use Rattle.numbers.proofs.Word.{word_in, word_out}
use Rattle.maker.proofs.Words.{ending_none}
use Rattle.maker.proofs.moves.ending_at.Goals as goal
use Rattle.maker.proofs.moves.ending_at.Goals.{then-end_at-element, else-end_at-element}

pub loop-i-init : goal.loop-i-init
loop-i-init c = sym (ending_none (at c.args.ends.now) c.args.element)

pub loop-i-preserved : goal.loop-i-preserved
loop-i-preserved c =
    let i = c.loop-i.i in
    let e = c.end_at.ensures in
    let p : ℕ → Bool = λ i. eqb (at c.args.ends.now i) c.args.element in
    elim c.if-end_at-element.branch [
      | then-end_at-element w ↦
          w.word-is ∙ word_in i p _ (omega (arith, c.requires)) c.loop-i.invariant (eqb_of _ _ (sym e ∙ w.if-end_at-element.true))
      | else-end_at-element w ↦ w.word-is ∙ word_out i p _ c.loop-i.invariant (λ t. w.if-end_at-element.false (e ∙ eqb→eq _ _ t))
    ]
