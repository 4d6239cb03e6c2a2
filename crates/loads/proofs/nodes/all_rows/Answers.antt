-- `all_rows` gives the word of the first bits.
use Rattle.std.proofs.Common.{◌≡◌, Bool, ◌&&◌, ltb, ap, ◌∙◌, arith}
use borrow.Author.Tests.{le-leb}
use Rattle.numbers.proofs.Word.{stretch_pow}
use Rattle.rules.specs.Bounds.{max_rows}
use Rattle.loads.proofs.nodes.all_rows.Goals as goal

pub returns-then-rows-eq-ROWS : goal.returns-then-rows-eq-ROWS
returns-then-rows-eq-ROWS c =
    let e : c.args.rows ≡ max_rows = omega (arith, c.if-rows-eq-ROWS.true) in
    λ i. rw e (stretch_pow i 0 64 (omega arith) ∙ ap (λ (b : Bool). b && ltb i 64) (le-leb 0 i (omega arith)))
