-- `put_starts` gives each row the node of the first set that has it, and each node these rows.
use Rattle.std.proofs.Common.{refl, sym, arith, below_more}
use lib.ListN.{length-set}
use Rattle.numbers.specs.Lists.{at}
use Rattle.numbers.specs.Word.{bit}
use Rattle.numbers.proofs.Truth.{of_true, of_false}
use Rattle.numbers.proofs.Finite.{lowest_is, lowest_none}
use Rattle.loads.proofs.Leaving.{leaving_start, leaving_next, leaving_end}
use Rattle.loads.proofs.Sorted.{sorted_start, sorted_more, sorted_end}
use Rattle.loads.proofs.nodes.put_starts.Goals as goal

pub loop-k-init : goal.loop-k-init
loop-k-init c = record {
  leaving = rw c.requires.2 (leaving_start _ _ _ _ c.all_rows-left.ensures (λ i j l. absurd (omega arith)));
  size = rw c.requires.3 refl;
  sorted = rw c.requires.3 (sorted_start _ _ c.args.tail.now c.all_rows-left.ensures);
}

pub loop-k-preserved : goal.loop-k-preserved
loop-k-preserved c =
    let u = c.loop-k in
    let a = c.args in
    let w = at a.words.now u.k in
    record {
      leaving =
          leaving_next u.invariant.leaving w u.k c.put.ensures _
          (λ i m o b. sym (lowest_is a.sets (λ j. bit (at a.words.now j) i) u.k c.loop-k-test.true (of_true b) o))
          (λ i o b. below_more _ _ o (of_false b));
      size = simp length-set u.invariant.size;
      sorted =
          sorted_more u.invariant.leaving u.out u.k u.invariant.sorted (omega (arith, u.invariant.size, c.requires.1)) w c.put.ensures;
    }

pub returns : goal.returns
returns c =
    let u = c.loop-k in
    let a = c.args in (
      leaving_end u.invariant.leaving a.sets c.put-2.ensures
          (λ i m o. sym (lowest_none a.sets (λ j. bit (at a.words.now j) i) (λ j l. o j (omega arith)))),
      λ v i l. sorted_end u.invariant.leaving u.out a.sets u.invariant.sorted (omega (arith, u.invariant.size, c.requires.1))
          c.put-2.ensures v i,
    )
