-- past_last: what is left of the word past its rows.
use Rattle.std.proofs.Common.{arith, ◌^◌, ◌<◌}
use borrow.Author.Tests.{not-true, not-false, eqb-true, eqb-false}
use Rattle.numbers.proofs.Truth.{decides_no}
use Rattle.numbers.proofs.Word.{bit_lt}
use Rattle.maker.proofs.Bad.{bit_past, bits_below}
use Rattle.maker.proofs.moves.past_last.Goals as goal

pub returns-then-rows-eq-ROWS : goal.returns-then-rows-eq-ROWS
returns-then-rows-eq-ROWS c =
    let l : c.args.word < 2 ^ 64 = omega (arith, c.ranges.word) in
    decides_no (λ q. let z : ⊥ = omega (arith, q.1, bit_lt 64 c.args.word q.0 l q.2, c.if-rows-eq-ROWS.true) in z)

pub returns : goal.returns
returns c =
    let l : c.args.word < 2 ^ 64 = omega (arith, c.ranges.word) in record {
      holds = λ e.
          bit_past c.args.rows c.args.word l (omega (arith, c.requires, c.if-rows-eq-ROWS.false)) (eqb-false _ _ (not-true _ e));
      fails = λ e. bits_below c.args.rows c.args.word (eqb-true _ _ (not-false _ e));
    }
