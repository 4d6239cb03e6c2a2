-- The listed overlap sets of two rings whose rows stand on one line, each ring's on its own part: the sets of ring 0 come first, and no
-- ring has more of them than elements. Row i's ring is its digit in the word `upper`.
use mathlib.Core.Path.{◌≡◌, refl, sym, ap, ◌∙◌}
use mathlib.Core.Bool.{Bool, true, false, not}
use mathlib.Core.List.{List}
use mathlib.Core.Logic.{◌⊎◌, inl, inr}
use Prim.Native.Nat.{ℕ, zero, suc, ◌+◌, ◌-◌, ◌*◌, ◌≤◌, ◌<◌, max}
use native.Mathlib.Decide.{dec_lt}
use native.Mathlib.Nat.{eq-or-lt_of_le, mul-le-mul_right}
use native.Mathlib.Omega.{arith}
use lib.Bits.{bit_and}
use lib.Dec.{T, eqb, ltb, ltb→lt}
use lib.ListN.{length}
use borrow.Author.Tests.{eq-eqb, ne_eqb}
use Rattle.numbers.specs.Lists.{at}
use Rattle.numbers.specs.Word.{bit}
use Rattle.numbers.proofs.Truth.{fst, snd, is_true, is_false, of_true, of_false, along}
use Rattle.numbers.proofs.Finite.{lowest_has, lowest_under, lowest_le}
use Rattle.numbers.proofs.Word.{bit_and_lem, bit_ext, bit_zero}
use Rattle.rules.specs.Bounds.{max_rings}
use Rattle.rules.specs.Line.{meet, Least, SetList}
use Rattle.sets.proofs.Overlap.{closed}
use Rattle.loads.specs.Loads.{digit}
use Rattle.loads.proofs.Settling.{digit_on, digit_off}
use Rattle.interval.specs.Folded.{low_sets}
use Rattle.interval.proofs.Unfolding.{ring_sets, in_line}

module _ (n M : ℕ) (first second : ℕ → ℕ) (upper : ℕ) (line : (i : ℕ) → i < n → first i < second i) (pos : 0 < n)
    (own : (i : ℕ) → i < n → (digit upper i * (M + 1) < first i) × (second i ≤ digit upper i * (M + 1) + (M + 1))) where
  -- rows of a ring end before those of a later one start, so they don't overlap
  ends_before : (i j : ℕ) → i < n → j < n → digit upper i < digit upper j → second i < first j
  ends_before i j l m h =
      let g : digit upper i + 1 ≤ digit upper j = omega arith in
      omega (arith, own i l, own j m, mul-le-mul_right (M + 1) g)

  pub one_ring : (i j : ℕ) → i < n → j < n → T (meet first second i j) → digit upper i ≡ digit upper j
  unfolding meet
  one_ring i j l m t = go (dec_lt (digit upper i) (digit upper j)) (dec_lt (digit upper j) (digit upper i))
    where
      go : Dec (digit upper i < digit upper j) → Dec (digit upper j < digit upper i) → digit upper i ≡ digit upper j
      go (yes h) d = absurd (omega (arith, ends_before i j l m h, ltb→lt (first j) (second i) (snd (ltb (first i) (second j)) _ t)))
      go (no c) (yes h) = absurd (omega (arith, ends_before j i m l h, ltb→lt (first i) (second j) (fst (ltb (first i) (second j)) _ t)))
      go (no c) (no d) = omega arith

  module _ (ws : List ℕ) (S : SetList n (meet first second) second ws) where
    abbrev low : ℕ
    low = low_sets upper ws

    abbrev has : ℕ → Bool
    has k = not (eqb (bit_and (at ws k) upper) 0)

    -- ---- the sets of ring 0 come first

    -- a set with a row of ring 1
    above : (k i : ℕ) → T (bit (at ws k) i) → bit upper i ≡ true → low ≤ k
    above k i t u =
        lowest_under (length ws) has k (of_true (ap not (ne_eqb (bit_and (at ws k) upper) 0 differs)))
      where
        both : bit (bit_and (at ws k) upper) i ≡ true
        both = bit_and_lem (at ws k) upper i ∙ rw (is_true (bit (at ws k) i) t) u

        differs : bit_and (at ws k) upper ≡ 0 → ⊥
        differs q = of_false (ap (λ (w : ℕ). bit w i) q ∙ bit_zero i) (of_true both)

    -- a set with a row of ring 0: rows of ring 1 end later, and so do the sets from their first on
    below : (k i : ℕ) → k < length ws → T (bit (at ws k) i) → bit upper i ≡ false → k < low
    below k i h t u = go (dec_lt k low)
      where
        later : low ≤ k → (j : ℕ) → T (bit (at ws low) j) → bit upper j ≡ true → ⊥
        later l j v q = by_order (eq-or-lt_of_le l)
          where
            row : i < n
            row = (S.each k h).rows i t

            other : j < n
            other = (S.each low (omega arith)).rows j v

            by_order : (low ≡ k) ⊎ (low < k) → ⊥
            by_order (inl e) =
                let v' : T (bit (at ws k) j) = rw e at v in
                omega (arith, digit_on upper j q, digit_off upper i u, one_ring i j row other ((S.each k h).pairs i j t v'))
            by_order (inr e) =
                let c = closed n first second line pos (S.each low (omega arith)) in
                let d = closed n first second line pos (S.each k h) in
                let r = c.2.reached in
                let m = (S.each low (omega arith)).rows r.0 r.1 in
                let w : digit upper r.0 ≡ 1 =
                one_ring r.0 j m other ((S.each low (omega arith)).pairs r.0 j r.1 v) ∙ digit_on upper j q in
                let z : digit upper i ≡ 0 = digit_off upper i u in
                omega (
                  arith,
                  S.order low k c.0 d.0 e h c.2 d.2,
                  r.2,
                  d.2.under i t,
                  rw w at (own r.0 m),
                  line r.0 m,
                  rw z at (own i row),
                )

        go : Dec (k < low) → k < low
        go (yes l) = l
        go (no l) =
            let at_low : low ≤ k = omega arith in
            let empty : bit_and (at ws low) upper ≡ 0 =
            bit_ext (bit_and (at ws low) upper) 0 (λ j. is_false _ (λ v.
            let w = along (bit_and_lem (at ws low) upper j) v in
            later at_low j (fst (bit (at ws low) j) (bit upper j) w) (is_true (bit upper j) (snd (bit (at ws low) j) (bit upper j) w)))
            ∙ sym (bit_zero j)) in
            absurd (of_false (ap not (eq-eqb (bit_and (at ws low) upper) 0 empty)) (lowest_has (length ws) has (omega arith)))

    -- so a set is one of its rows' ring
    pub in_ring : (m i : ℕ) → m < length ws → T (bit (at ws m) i)
        → (k : ℕ) × (k < ring_sets low (length ws) (digit upper i)) × (m ≡ digit upper i * low + k)
    unfolding ring_sets
    in_ring m i h t = go (bit upper i) refl
      where
        go : (b : Bool) → bit upper i ≡ b → (k : ℕ) × (k < ring_sets low (length ws) (digit upper i)) × (m ≡ digit upper i * low + k)
        go false e = rw (digit_off upper i e) (m, below m i h t e, omega arith)
        go true e =
            let l = above m i t e in
            let k : m - low < length ws - low = omega arith in
            rw (digit_on upper i e) (m - low, k, omega arith)

    -- ---- no ring has more sets than elements

    some : low ≤ length ws
    some = lowest_le (length ws) has

    -- the rows of a ring's set are of that ring
    of_ring : (d k i : ℕ) → d < max_rings → k < ring_sets low (length ws) d → T (bit (at ws (d * low + k)) i) → digit upper i ≡ d
    unfolding ring_sets
    of_ring zero k i g l t = go (bit upper i) refl
      where
        go : (b : Bool) → bit upper i ≡ b → digit upper i ≡ 0
        go false e = digit_off upper i e
        go true e = let h : k < low = l in absurd (omega (arith, above (0 * low + k) i t e))
    of_ring (suc zero) k i g l t = go (bit upper i) refl
      where
        go : (b : Bool) → bit upper i ≡ b → digit upper i ≡ 1
        go false e =
            let h : k < length ws - low = l in
            absurd (omega (arith, below (1 * low + k) i (omega (arith, some)) t e))
        go true e = digit_on upper i e
    of_ring (suc (suc d)) k i g l t = absurd (omega arith)

    -- a ring's sets have least second ends that ascend, each past the ring's first element
    abbrev End : (d k f : ℕ) → Type 0
    End d k f = (e : ℕ) × Least second (bit (at ws (d * low + k))) e × (d * (M + 1) + f + 2 ≤ e) × (e ≤ d * (M + 1) + (M + 1))

    rise : (d k : ℕ) → d < max_rings → k < ring_sets low (length ws) d → End d k k
    rise d k g h = go k h (end k h)
      where
        end : (k : ℕ) → k < ring_sets low (length ws) d → End d k 0
        end k h =
            let o = S.each (d * low + k) (in_line low (length ws) d k some g h) in
            let c = closed n first second line pos o in
            let j = c.2.reached in
            let l = o.rows j.0 j.1 in
            let w : digit upper j.0 ≡ d = of_ring d k j.0 g h j.1 in
            let r = rw w at (own j.0 l) in
            (c.0, c.2, omega (arith, j.2, r, line j.0 l), omega (arith, j.2, r))

        go : (k : ℕ) → k < ring_sets low (length ws) d → End d k 0 → End d k k
        go zero h c = c
        go (suc k) h c =
            let l : k < ring_sets low (length ws) d = omega arith in
            let p = go k l (end k l) in
            let b = in_line low (length ws) d (suc k) some g h in
            (c.0, c.1, omega (arith, p.2, S.order (d * low + k) (d * low + suc k) p.0 c.0 (omega arith) b p.1 c.1), c.3)

    few : (d : ℕ) → d < max_rings → ring_sets low (length ws) d ≤ M
    few d g = go (ring_sets low (length ws) d) refl
      where
        go : (K : ℕ) → ring_sets low (length ws) d ≡ K → ring_sets low (length ws) d ≤ M
        go zero e = omega arith
        go (suc K) e = let r = rise d K g (omega arith) in omega (arith, r.2, r.3)

    pub few_folded : max low (length ws - low) ≤ M
    unfolding ring_sets
    few_folded = let a : low ≤ M = few 0 (omega arith) in let b : length ws - low ≤ M = few 1 (omega arith) in omega arith
