-- Loads that qualify on each ring of the folded line qualify on the whole line, and the other way round.
--
--   ring_sets low K d     how many of K sets are ring d's, where the first `low` are those of ring 0
use mathlib.Core.Path.{◌≡◌, refl, sym, ap, ap₂, ◌∙◌}
use mathlib.Core.Bool.{Bool, true, false, ◌&&◌}
use Prim.Native.Nat.{ℕ, zero, suc, ◌+◌, ◌-◌, ◌*◌, ◌≤◌, ◌<◌}
use native.Mathlib.Decide.{dec_lt, dec_le, ℕ_discrete}
use native.Mathlib.Omega.{arith}
use lib.Dec.{leb, eqb}
use borrow.Author.Tests.{le-leb, lt-leb, eq-eqb, ne_eqb}
use Rattle.numbers.specs.Finite.{only, sum_in}
use Rattle.numbers.specs.Rounding.{Rounded}
use Rattle.numbers.proofs.Finite.{only_true, only_false, only_zero, only_and, only_comm, sum_eq, sum_zero}
use Rattle.rules.specs.Bounds.{max_rings}
use Rattle.rules.specs.Interval.{Greatest}
use Rattle.loads.specs.Loads.{covers, in_set, digit, none, Qualified}
use Rattle.loads.proofs.Choice.{sum_none}
use Rattle.loads.proofs.Line.{covers_before, covers_after}
use Rattle.loads.proofs.Settling.{digit_le}
use Rattle.interval.specs.Rings.{on_ring, OnEach}
use Rattle.interval.proofs.Product.{rounded_none}

unfoldable pub ring_sets : (low K d : ℕ) → ℕ
ring_sets low K zero = low
ring_sets low K (suc d) = K - low

pub in_line : (low K d k : ℕ) → low ≤ K → d < max_rings → k < ring_sets low K d → d * low + k < K
unfolding ring_sets
in_line low K zero k s g l = let h : k < low = l in omega arith
in_line low K (suc zero) k s g l = let h : k < K - low = l in omega arith
in_line low K (suc (suc d)) k s g l = absurd (omega arith)

-- ---- a set of the line, and of the folded line

leb_shift : (c x y : ℕ) → leb (c + x) (c + y) ≡ leb x y
leb_shift c x y = go (dec_le x y)
  where
    go : Dec (x ≤ y) → leb (c + x) (c + y) ≡ leb x y
    go (yes l) = le-leb (c + x) (c + y) (omega arith) ∙ sym (le-leb x y l)
    go (no l) = lt-leb (c + x) (c + y) (omega arith) ∙ sym (lt-leb x y (omega arith))

pub covers_shift : (c x y k : ℕ) → covers (c + x) (c + y) (c + k) ≡ covers x y k
covers_shift c x y k = ap₂ ◌&&◌ (leb_shift c x k) (leb_shift c k y)

-- Row from x to y of ring u, and set k of ring d: the row has the set on the line just if it is of that ring and has the set there.
covers_unfolded : (low K u d x y k : ℕ) → u < max_rings → d < max_rings → y < ring_sets low K u → k < ring_sets low K d
    → covers (u * low + x) (u * low + y) (d * low + k) ≡ (eqb u d && covers x y k)
unfolding ring_sets
covers_unfolded low K zero zero x y k p q l m = covers_shift (0 * low) x y k
covers_unfolded low K zero (suc zero) x y k p q l m =
    let h : y < low = l in covers_after (0 * low + x) (0 * low + y) (1 * low + k) (omega arith)
covers_unfolded low K zero (suc (suc d)) x y k p q l m = absurd (omega arith)
covers_unfolded low K (suc zero) zero x y k p q l m =
    let h : k < low = m in covers_before (1 * low + x) (1 * low + y) (0 * low + k) (omega arith)
covers_unfolded low K (suc zero) (suc zero) x y k p q l m = covers_shift (1 * low) x y k
covers_unfolded low K (suc zero) (suc (suc d)) x y k p q l m = absurd (omega arith)
covers_unfolded low K (suc (suc u)) d x y k p q l m = absurd (omega arith)

-- K sets of the line, the first `low` of ring 0, folded to K' sets, where row i has those from a i to b i.
module _ (n K K' low : ℕ) (a b : ℕ → ℕ) (h upper : ℕ) (pos : 0 < h) (some : low ≤ K) (folded : (d : ℕ) → ring_sets low K d ≤ K')
    (ends : (i : ℕ) → i < n → b i < ring_sets low K (digit upper i)) where
  abbrev up : (ℕ → ℕ) → ℕ → ℕ
  up e i = digit upper i * low + e i

  -- ---- sums

  set_sum : (d k : ℕ) → d < max_rings → k < ring_sets low K d → (x : ℕ → ℕ)
      → sum_in n (in_set (up a) (up b) (d * low + k)) x ≡ sum_in n (in_set a b k) (on_ring d upper x)
  set_sum d k g l x =
      sum_eq n (λ i. only (in_set (up a) (up b) (d * low + k) i) (x i)) (λ i. only (in_set a b k i) (on_ring d upper x i)) (λ i m.
      ap (λ (t : Bool). only t (x i))
      (covers_unfolded low K (digit upper i) d (a i) (b i) k (omega (arith, digit_le upper i)) g (ends i m) l)
      ∙ only_and (eqb (digit upper i) d) (in_set a b k i) (x i)
      ∙ only_comm (eqb (digit upper i) d) (in_set a b k i) (x i))

  -- past the last set of a ring there is nothing of it
  no_sum : (d k : ℕ) → ring_sets low K d ≤ k → (x : ℕ → ℕ) → sum_in n (in_set a b k) (on_ring d upper x) ≡ 0
  no_sum d k l x = sum_zero n _ (λ i m. go i m (ℕ_discrete (digit upper i) d))
    where
      go : (i : ℕ) → i < n → Dec (digit upper i ≡ d) → only (in_set a b k i) (on_ring d upper x i) ≡ 0
      go i m (yes e) =
          only_false _ _ (covers_after (a i) (b i) k (omega (arith, ends i m, ap (ring_sets low K) e)))
      go i m (no e) = ap (only (in_set a b k i)) (only_false _ (x i) (ne_eqb (digit upper i) d e)) ∙ only_zero (in_set a b k i)

  -- ---- what qualifies

  module _ (f x : ℕ → ℕ) where
    each_of : Qualified n K (up a) (up b) h f none x → OnEach n K' a b h upper f x
    each_of Q d g = record {
      rows = λ i l. row (eqb (digit upper i) d) i l;
      sets = λ k l. set k (dec_lt k (ring_sets low K d));
    }
      where
        row : (t : Bool) (i : ℕ) → i < n → Rounded (0 + only t (x i)) (only t (f i)) h
        row true i l = rw (only_true true (x i) refl, only_true true (f i) refl) (Q.rows i l)
        row false i l = rw (only_false false (x i) refl, only_false false (f i) refl) (rounded_none h pos)

        set : (k : ℕ) → Dec (k < ring_sets low K d)
            → Rounded (sum_in n (in_set a b k) none + sum_in n (in_set a b k) (on_ring d upper x)) (sum_in n (in_set a b k) (on_ring d upper f)) h
        set k (yes l) =
            rw (sum_none n (in_set a b k), sym (set_sum d k g l x), sym (set_sum d k g l f))
            (rw (sum_none n (in_set (up a) (up b) (d * low + k))) at (Q.sets (d * low + k) (in_line low K d k some g l)))
        set k (no l) =
            rw (sum_none n (in_set a b k), no_sum d k (omega arith) x, no_sum d k (omega arith) f) (rounded_none h pos)

    of_each : OnEach n K' a b h upper f x → Qualified n K (up a) (up b) h f none x
    unfolding ring_sets
    of_each Q = record {
      rows = λ i l.
          let d = digit upper i in
          let t = eq-eqb d d refl in
          rw (only_true (eqb d d) (x i) t, only_true (eqb d d) (f i) t) at ((Q d (omega (arith, digit_le upper i))).rows i l);
      sets = λ m l. set m l (dec_lt m low);
    }
      where
        one : (d k : ℕ) → d < max_rings → k < ring_sets low K d → Rounded (sum_in n (in_set (up a) (up b) (d * low + k)) none
            + sum_in n (in_set (up a) (up b) (d * low + k)) x) (sum_in n (in_set (up a) (up b) (d * low + k)) f) h
        one d k g l =
            rw (sum_none n (in_set (up a) (up b) (d * low + k)), set_sum d k g l x, set_sum d k g l f)
            (rw (sum_none n (in_set a b k)) at ((Q d g).sets k (omega (arith, folded d))))

        set : (m : ℕ) → m < K → Dec (m < low)
            → Rounded (sum_in n (in_set (up a) (up b) m) none + sum_in n (in_set (up a) (up b) m) x) (sum_in n (in_set (up a) (up b) m) f) h
        set m l (yes q) = let e : 0 * low + m ≡ m = omega arith in rw e at (one 0 m (omega arith) q)
        set m l (no q) =
            let e : 1 * low + (m - low) ≡ m = omega arith in
            let r : m - low < K - low = omega arith in
            rw e at (one 1 (m - low) (omega arith) r)

  pub unfolded_greatest : (f x : ℕ → ℕ) → Greatest n (OnEach n K' a b h upper f) x → Greatest n (Qualified n K (up a) (up b) h f none) x
  unfolded_greatest f x G = record { qualify = of_each f x G.qualify; most = λ z q. G.most z (each_of f z q) }
