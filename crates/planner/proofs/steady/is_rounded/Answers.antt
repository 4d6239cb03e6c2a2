-- is_rounded: by products.
use Rattle.std.proofs.Common.{◌+◌, ◌*◌, arith}
use borrow.Author.Tests.{ltb-true, ltb-false, le-ltb}
use Rattle.numbers.proofs.Rounding.{rounded_is, rounded_of}
use Rattle.numbers.proofs.Truth.{decides_no}
use Rattle.planner.proofs.steady.is_rounded.Goals as goal

pub returns-then-share-total : goal.returns-then-share-total
returns-then-share-total c =
    let n = c.args.total in
    let a = c.args.share in
    let h = c.args.hyper in
    record {
      holds = λ e. rounded_of a h c.requires.2 n c.if-share-total.true (ltb-true (n * h) (a + h) e);
      fails = λ e r. omega (arith, ltb-false (n * h) (a + h) e, (rounded_is a h c.requires.2 n r).1);
    }

pub returns-else-share-total : goal.returns-else-share-total
returns-else-share-total c =
    rw (le-ltb _ _ c.if-share-total.false)
    (decides_no (λ r. omega (arith, c.if-share-total.false, (rounded_is _ _ c.requires.2 _ r).0)))
