-- `visit` takes one row after the other; those in `done` are met.
use Rattle.std.proofs.Common.{sym, ◌∙◌}
use mathlib.Core.Bool.{false≢true}
use Rattle.numbers.specs.Word.{bit}
use Rattle.numbers.proofs.Word.{bit_zero}
use Rattle.loads.proofs.Words.{bit_one_more, in_first, fewer, one_of}
use Rattle.loads.proofs.Ways.{visit_start, visit_next}
use Rattle.loads.proofs.flow.visit.Goals as goal

pub loop-done-init : goal.loop-done-init
loop-done-init c = record {
  size = c.requires.1;
  some = λ i q. absurd (false≢true (sym (bit_zero i) ∙ q));
  visited = visit_start c.args.rows _ _ _ _;
}

pub loop-done-smaller : goal.loop-done-smaller
loop-done-smaller c =
    let u = c.loop-done in
    let i = c.pick-i.result in
    let l = c.pick-i.ensures.0 in
    fewer u.done _ i l (in_first _ _ c.pick-i.ensures.1 (u.invariant.some i)).1 (λ v. bit_one_more u.done i v l)

pub loop-done-preserved : goal.loop-done-preserved
loop-done-preserved c =
    let u = c.loop-done in
    let i = c.pick-i.result in
    let l = c.pick-i.ensures.0 in
    let e = c.reach-all.ensures in
    record {
      size = e.0;
      some = λ v q.
          one_of (bit u.done v) v i (sym (bit_one_more u.done i v l) ∙ q) (u.invariant.some v)
          (λ k. rw k (in_first _ _ c.pick-i.ensures.1 (u.invariant.some i)).0);
      visited =
          visit_next c.args.rows _ _ _ _ u.done _ i _ _ _ _ _ u.invariant.visited (λ v. bit_one_more u.done i v l)
          (λ v. bit_one_more c.args.way i v l) e.1;
    }
