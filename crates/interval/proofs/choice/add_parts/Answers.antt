-- `add_parts` has added the parts of the rows in `done`.
use Rattle.std.proofs.Common.{sym, ◌∙◌, arith}
use mathlib.Core.Bool.{false≢true}
use Rattle.numbers.specs.Word.{bit}
use Rattle.numbers.proofs.Word.{bit_zero}
use Rattle.loads.proofs.Words.{bit_one_more, in_first, fewer, one_of}
use Rattle.interval.proofs.Filling.{row_span, summed_none, summed_next, summed_room}
use Rattle.interval.proofs.choice.add_parts.Goals as goal

pub loop-done-init : goal.loop-done-init
loop-done-init c = record {
  size = c.requires.2;
  some = λ i q. absurd (false≢true (sym (bit_zero i) ∙ q));
  summed = λ n K S H R. summed_none n K _ _ _ _ c.requires.1;
}

pub lift-requires : goal.lift-requires
lift-requires c =
    let q = c.requires.0 in
    let u = c.loop-done in
    let i = c.pick-i.result in
    let l = c.pick-i.ensures.0 in
    let p = in_first _ _ c.pick-i.ensures.1 (u.invariant.some i) in
    let here = q.6 i p.0 in
    let r = row_span c.args.tail.now c.args.head.now q.3 i here (q.4 i here) in (
      r.0,
      r.1,
      u.invariant.size,
      λ k g v. summed_room q.0 q.1 _ _ _ _ u.done _ i here p.1 (λ j. bit_one_more u.done i j l)
          (u.invariant.summed _ _ q.3 q.4 q.6) q.2 q.5 q.3.few_rows k (omega (arith, r)) g (omega (arith, r)),
    )

pub loop-done-smaller : goal.loop-done-smaller
loop-done-smaller c =
    let u = c.loop-done in
    let i = c.pick-i.result in
    let l = c.pick-i.ensures.0 in
    fewer u.done _ i l (in_first _ _ c.pick-i.ensures.1 (u.invariant.some i)).1 (λ v. bit_one_more u.done i v l)

pub loop-done-preserved : goal.loop-done-preserved
loop-done-preserved c =
    let u = c.loop-done in
    let i = c.pick-i.result in
    let l = c.pick-i.ensures.0 in
    let p = in_first _ _ c.pick-i.ensures.1 (u.invariant.some i) in
    record {
      size = c.lift.ensures.0;
      some = λ j q. one_of (bit u.done j) j i (sym (bit_one_more u.done i j l) ∙ q) (u.invariant.some j) (λ k. rw k p.0);
      summed = λ n K S H R.
          let m = R i p.0 in
          summed_next n K _ _ _ _ u.done _ i m p.1 (λ j. bit_one_more u.done i j l) (u.invariant.summed n K S H R) _ _
          (row_span c.args.tail.now c.args.head.now S i m (H i m)).3 c.lift.ensures.1;
    }
