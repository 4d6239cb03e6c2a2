-- `fold_sets` folds word after word, from the first on: what it has still to read is as it was.
use Rattle.std.proofs.Common.{◌≡◌, List, ℕ, ◌≤◌, ◌<◌, length, take, cond, ap, ◌∙◌, arith}
use lib.ListN.{length-set}
use Rattle.numbers.specs.Lists.{at}
use Rattle.numbers.specs.Word.{bit}
use Rattle.loads.proofs.Network.{put_set}
use Rattle.interval.specs.Folded.{low_sets}
use Rattle.interval.proofs.Folding.{low_le, folding_start, folding_next, folded_none}
use Rattle.interval.proofs.fold.fold_sets.Goals as goal

pub returns-then-upper-eq0 : goal.returns-then-upper-eq0
returns-then-upper-eq0 c =
    let a = c.args in
    folded_none a.rows a.bound a.sets _ a.words.now c.requires.2 c.requires.1 c.upper_rows-upper.result c.upper_rows-upper.ensures
    c.if-upper-eq0.true

-- no more sets come before the second ring's than there are
few : (K low upper : ℕ) (ws : List ℕ) → low ≡ low_sets upper (take K ws) → K ≤ length ws → low ≤ K
few K low upper ws e l = omega (arith, e, low_le K upper ws l)

pub overflow_sub-sets : goal.overflow_sub-sets
overflow_sub-sets c = few _ _ _ _ c.low_sets-low.ensures (omega (arith, c.requires))

pub loop-k-init : goal.loop-k-init
loop-k-init c = record {
  low = few _ _ _ _ c.low_sets-low.ensures (omega (arith, c.requires));
  folding = folding_start _ _ _ c.args.words.now c.requires.2 c.requires.1;
}

pub loop-k-preserved : goal.loop-k-preserved
loop-k-preserved c =
    let u = c.loop-k in
    let a = c.args in
    let w = c.upper_rows-upper.result in
    let k : u.k < a.sets = omega (arith, c.max-count.ensures, u.invariant.low) in
    record {
      low = u.invariant.low;
      folding =
          folding_next _ _ _ a.words.now c.requires.2 c.requires.1 u.k c.merge.result u.words _ u.invariant.folding k
          (put_set u.words u.k c.merge.result (omega (arith, u.invariant.folding.size)))
          (simp length-set u.invariant.folding.size)
          (λ i. c.merge.ensures i ∙ ap (λ (v : ℕ). cond (bit w i) (bit v i) (bit (at u.words u.k) i)) c.set_at-high.ensures);
    }
