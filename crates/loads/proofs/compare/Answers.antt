-- `compare` goes through the sets; the three words are those of the sets passed.
use Rattle.std.proofs.Common.{◌≡◌, ℕ, suc, ◌+◌, ◌*◌, ◌≤◌, ◌<◌, ◌^◌, bit_and, bit_xor, refl, sym, ap, add-one, arith}
use native.Mathlib.Nat.{lt_of_le_of_lt, mul-le-mul}
use lib.Bits.{and_le_l}
use lib.Count.{ones, ones-le}
use Rattle.numbers.specs.Lists.{at}
use Rattle.rules.specs.Bounds.{max_rows, max_slots}
use Rattle.loads.specs.State.{over}
use Rattle.loads.proofs.Comparing.{takes, gives, lacks, takes_next, compared_of, word_one, word_zero, word_more}
use Rattle.loads.proofs.Over.{over_next}
use Rattle.loads.proofs.compare.Goals as goal

few : (h top w : ℕ) → h ≤ max_slots → top < 2 ^ 64 → h * ones (bit_and top w) ≤ max_slots * max_rows
few h top w l f = mul-le-mul l (ones-le 64 (bit_and top w) (lt_of_le_of_lt (and_le_l top w) f))

pub loop-k-init : goal.loop-k-init
unfolding over
loop-k-init c =
    let C : ℕ → ℕ = λ q. ones (bit_and c.args.top (over (at c.args.out.now) (at c.args.into.now) (suc q))) in
    let F : ℕ → ℕ = at c.args.sum.now in
    let h = c.args.size.hyper in
    record { more = word_one (takes h C F) refl; less = word_zero (gives h C F); low = word_zero (lacks h C F); rows = refl }

pub overflow_mul-used : goal.overflow_mul-used
overflow_mul-used c =
    let a = c.args in
    let u = c.loop-k in
    omega (arith, few a.size.hyper a.top (bit_xor (bit_xor u.rows (at a.out.now u.k)) (at a.into.now u.k)) c.requires.1 c.ranges.top.fits)

pub overflow_add-used : goal.overflow_add-used
overflow_add-used c =
    let a = c.args in
    let u = c.loop-k in
    omega (
      arith,
      few a.size.hyper a.top (bit_xor (bit_xor u.rows (at a.out.now u.k)) (at a.into.now u.k)) c.requires.1 c.ranges.top.fits,
      c.requires.1,
    )

pub loop-k-preserved : goal.loop-k-preserved
loop-k-preserved c =
    let a = c.args in
    let C : ℕ → ℕ = λ q. ones (bit_and a.top (over (at a.out.now) (at a.into.now) (suc q))) in
    let F : ℕ → ℕ = at a.sum.now in
    let h = a.size.hyper in
    let u = c.loop-k in
    let e = over_next (at a.out.now) (at a.into.now) u.k _ u.invariant.rows in
    rw e
    (record {
      more = word_more (u.k + 1) u.more _ (takes h C F) _ u.invariant.more (rw e at c.mark-more.ensures) (takes_next h C F u.k);
      less = word_more u.k u.less _ (gives h C F) _ u.invariant.less (rw e at c.mark-less.ensures) refl;
      low = word_more u.k u.low _ (lacks h C F) _ u.invariant.low (rw e at c.mark-low.ensures) refl;
      rows = ap (over (at a.out.now) (at a.into.now)) (sym (add-one u.k));
    })

pub returns : goal.returns
returns c =
    let u = c.loop-k in
    let a = c.args in
    let C : ℕ → ℕ = λ q. ones (bit_and a.top (over (at a.out.now) (at a.into.now) (suc q))) in
    let F : ℕ → ℕ = at a.sum.now in
    let h = a.size.hyper in
    let e : u.k ≡ a.size.sets = omega (arith, c.loop-k-test.false) in (
      refl,
      refl,
      rw e at (compared_of h C F u.k u.more u.less u.low u.invariant.more u.invariant.less u.invariant.low),
    )
