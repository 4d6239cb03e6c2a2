-- `part_shares` has parted the shares of the rows that it has passed.
use Rattle.std.proofs.Common.{◌≡◌, ℕ, ◌+◌, ◌-◌, ◌*◌, ◌/◌, ◌%◌, ltb, sym, ap, ◌∙◌, arith, below_more}
use native.Mathlib.Nat.{mod-add-div'}
use lib.Dec.{ltb→lt}
use lib.ListN.{length-set}
use Rattle.numbers.specs.Lists.{at}
use Rattle.numbers.specs.Word.{bit}
use Rattle.numbers.proofs.Truth.{and_under}
use Rattle.numbers.proofs.Word.{bit_word}
use Rattle.loads.proofs.Comparing.{word_zero, word_more}
use Rattle.loads.proofs.Network.{put_set}
use Rattle.interval.proofs.part_shares.Goals as goal

-- a share's whole slots, and what is above them
parted : (share h w : ℕ) → w ≡ share / h → w * h + share % h ≡ share
parted share h w e = omega (arith, ap (λ (q : ℕ). q * h) e, mod-add-div' share h)

pub loop-i-init : goal.loop-i-init
loop-i-init c = record { wholes = c.requires.5; parts = c.requires.6; shares = λ j l. absurd (omega arith); parted = word_zero _ }

pub loop-i-preserved : goal.loop-i-preserved
loop-i-preserved c =
    let u = c.loop-i in
    let a = c.args in
    let h = a.size.hyper in
    let s : ℕ = at a.rate.now u.i * a.slots in
    let r : ℕ = c.slots_at.result * a.slots - c.whole_of-w.result * h in
    let e : c.slots_at.result * a.slots ≡ s = ap (λ (q : ℕ). q * a.slots) c.slots_at.ensures in
    let w : c.whole_of-w.result ≡ s / h = rw e at (c.whole_of-w.ensures h c.requires.1 c.requires.2 c.requires.3) in
    let o : r ≡ s % h = omega (arith, e, parted s h c.whole_of-w.result w) in
    let p = put_set u.whole u.i c.whole_of-w.result (omega (arith, u.invariant.wholes, c.requires.0)) in
    let q = put_set u.part u.i r (omega (arith, u.invariant.parts, c.requires.0)) in
    record {
      wholes = simp length-set u.invariant.wholes;
      parts = simp length-set u.invariant.parts;
      shares =
          below_more _ _
          (λ j l. (p.1 j (omega arith) ∙ (u.invariant.shares j l).0, q.1 j (omega arith) ∙ (u.invariant.shares j l).1))
          (p.0 ∙ w, q.0 ∙ o);
      parted =
          word_more u.i u.parted _ (λ j. ltb 0 (at a.rate.now j * a.slots % h)) _ u.invariant.parted c.mark-parted.ensures
          (ap (ltb 0) (sym o));
    }

pub returns : goal.returns
returns c =
    let u = c.loop-i in
    let n = c.args.size.rows in
    let e : u.i ≡ n = omega (arith, c.loop-i-test.false) in
    let same = rw e at u.invariant.shares in (
      u.invariant.wholes,
      u.invariant.parts,
      same,
      λ i. ap (λ (w : ℕ). bit w i) (rw e at u.invariant.parted) ∙ bit_word n _ i
          ∙ and_under (ltb i n) _ _ (λ t. ap (ltb 0) (sym (same i (ltb→lt i n t)).1)),
    )
