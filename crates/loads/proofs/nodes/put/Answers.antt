-- `put` takes one row after the other; those in `done` are written.
use Rattle.std.proofs.Common.{refl, sym, ◌∙◌, arith}
use mathlib.Core.Bool.{false≢true}
use lib.ListN.{length-set}
use Rattle.numbers.specs.Word.{bit}
use Rattle.numbers.proofs.Word.{bit_zero}
use Rattle.loads.proofs.Network.{put_set}
use Rattle.loads.proofs.Words.{bit_one_more, in_first, fewer, one_of}
use Rattle.loads.proofs.Leaving.{marked_next}
use Rattle.loads.proofs.nodes.put.Goals as goal

pub loop-done-init : goal.loop-done-init
loop-done-init c = record {
  some = λ i q. absurd (false≢true (sym (bit_zero i) ∙ q));
  marked = record { size = c.requires; inside = λ i q. absurd (false≢true (sym (bit_zero i) ∙ q)); outside = λ i q. refl };
}

pub loop-done-smaller : goal.loop-done-smaller
loop-done-smaller c =
    let u = c.loop-done in
    let i = c.pick-i.result in
    let l = c.pick-i.ensures.0 in
    fewer u.done _ i l (in_first _ _ c.pick-i.ensures.1 (u.invariant.some i)).1 (λ v. bit_one_more u.done i v l)

pub loop-done-preserved : goal.loop-done-preserved
loop-done-preserved c =
    let u = c.loop-done in
    let a = c.args in
    let i = c.pick-i.result in
    let l = c.pick-i.ensures.0 in
    let M = u.invariant.marked in
    record {
      some = λ j q.
          one_of (bit u.done j) j i (sym (bit_one_more u.done i j l) ∙ q) (u.invariant.some j)
          (λ k. rw k (in_first _ _ c.pick-i.ensures.1 (u.invariant.some i)).0);
      marked =
          marked_next u.done _ i a.v _ _ _ M (put_set u.to i a.v (omega (arith, M.size, l))) (simp length-set M.size)
          (λ j. bit_one_more u.done i j l);
    }
