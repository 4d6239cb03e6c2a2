-- `put_stops` gives each row the node after the last set that has it, and each node these rows: the sets from the last on.
use Rattle.std.proofs.Common.{◌≡◌, Bool, ℕ, suc, ◌+◌, ◌-◌, ◌≤◌, ◌<◌, refl, arith}
use native.Mathlib.Decide.{ℕ_discrete}
use lib.Dec.{T}
use lib.ListN.{length-set}
use Rattle.numbers.specs.Finite.{highest}
use Rattle.numbers.specs.Lists.{at}
use Rattle.numbers.specs.Word.{bit}
use Rattle.numbers.proofs.Truth.{of_true, of_false}
use Rattle.numbers.proofs.Finite.{highest_is, highest_none}
use Rattle.loads.proofs.Leaving.{leaving_start, leaving_next, leaving_end}
use Rattle.loads.proofs.Sorted.{sorted_start, sorted_more, sorted_end}
use Rattle.loads.proofs.nodes.put_stops.Goals as goal

-- no set from k on has the row
abbrev Above : (sets k : ℕ) → (ℕ → Bool) → Type 0
Above sets k p = (j : ℕ) → k ≤ j → j < sets → T (p j) → ⊥

above_next : (sets k : ℕ) (p : ℕ → Bool) → Above sets k p → (T (p (k - 1)) → ⊥) → Above sets (k - 1) p
above_next sets k p a f j l m t = go (ℕ_discrete j (k - 1))
  where
    go : Dec (j ≡ k - 1) → ⊥
    go (yes e) = f (rw e at t)
    go (no e) = a j (omega arith) m t

above_is : (sets k : ℕ) (p : ℕ → Bool) → 0 < k → k ≤ sets → Above sets k p → T (p (k - 1)) → k - 1 + 1 ≡ suc (highest sets p)
above_is sets k p h g a t = omega (arith, highest_is sets p (k - 1) (omega arith) t (λ j l m. a j (omega arith) m))

above_none : (sets : ℕ) (p : ℕ → Bool) → Above sets 0 p → 1 ≡ suc (highest sets p)
above_none sets p a = omega (arith, highest_none sets p (λ j l. a j (omega arith) l))

pub loop-k-init : goal.loop-k-init
loop-k-init c = record {
  leaving = rw c.requires.2 (leaving_start _ _ _ _ c.all_rows-left.ensures (λ i j l m. absurd (omega arith)));
  size = rw c.requires.3 refl;
  sorted = rw c.requires.3 (sorted_start _ _ c.args.head.now c.all_rows-left.ensures);
}

pub loop-k-preserved : goal.loop-k-preserved
loop-k-preserved c =
    let u = c.loop-k in
    let a = c.args in
    let w = at a.words.now (u.k - 1) in
    record {
      leaving =
          leaving_next u.invariant.leaving w (u.k - 1 + 1) c.put.ensures _
          (λ i m o b. above_is a.sets u.k (λ j. bit (at a.words.now j) i) c.loop-k-test.true u.auto.k o (of_true b))
          (λ i o b. above_next a.sets u.k (λ j. bit (at a.words.now j) i) o (of_false b));
      size = simp length-set u.invariant.size;
      sorted =
          sorted_more u.invariant.leaving u.into (u.k - 1 + 1) u.invariant.sorted
          (omega (arith, u.invariant.size, c.requires.1, u.auto.k, c.loop-k-test.true)) w c.put.ensures;
    }

pub returns : goal.returns
returns c =
    let u = c.loop-k in
    let a = c.args in (
      leaving_end u.invariant.leaving 1 c.put-2.ensures
          (λ i m o. above_none a.sets (λ j. bit (at a.words.now j) i) (λ j l g. o j (omega arith) g)),
      λ v i l. sorted_end u.invariant.leaving u.into 1 u.invariant.sorted (omega (arith, u.invariant.size)) c.put-2.ensures v i,
    )
