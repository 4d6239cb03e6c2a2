-- Words that no plan has: rows whose routes share a segment, by a running word of the segments used.
--
--   Used t w i used    used are the segments of the rows of w below i, and no two of these overlap
use mathlib.Core.Path.{◌≡◌, sym, ap, ◌∙◌}
use mathlib.Core.Logic.{⊎_elim, inl, inr, ◌≢◌, ◌⊎◌}
use mathlib.Core.Bool.{cond, ◌&&◌}
use mathlib.Core.List.{List}
use Prim.Native.Nat.{ℕ, suc, ◌+◌, ◌-◌, ◌*◌, ◌/◌, ◌%◌, ◌^◌, ◌≤◌, ◌<◌}
use native.Mathlib.Nat.{div-eq_of_lt, not-suc-le-zero, mod-add-div, mod-lt}
use native.Mathlib.Omega.{arith}
use lib.Bits.{bit_and, bit_or}
use lib.Dec.{T, eqb, eqb→eq, leb, le→leb, leb→le, lt→ltb}
use lib.Pow.{pow_pos}
use Rattle.numbers.specs.Finite.{any}
use Rattle.numbers.specs.Word.{bit}
use Rattle.numbers.specs.Lists.{at}
use Rattle.numbers.proofs.Truth.{eqb_of, decide, is_true, is_false, along, of_false, both, fst, snd, orl, orr, or_cases, le_or_lt}
use Rattle.numbers.proofs.Finite.{any_of, least}
use Rattle.numbers.proofs.Word.{bit_zero, bit_ext, bit_lt, bit_and_lem, bit_or_lem, lt_of_bits}
use Rattle.rules.specs.Bus.{Table, clockwise, uses, shares, overlap, steps}
use Rattle.rules.specs.ElementList.{BadWord}
use Rattle.rules.proofs.Shared.{zero_if_apart}
use lib.ListN.{length}
use Rattle.table.specs.Sound.{Sound}
use Rattle.table.proofs.ByRow.{past_end}
use Rattle.ring.specs.Route.{Element, row_segments}
use Rattle.ring.proofs.Clockwise.{steps_cases, steps_same}
use Rattle.ring.proofs.Mirror.{clockwise_uses}
use Rattle.ring.proofs.Words.{both_segments}
use Rattle.maker.specs.Words.{LowestBad}

-- ---- a bit past the last row

pub bit_past : (n w : ℕ) → w < 2 ^ 64 → n < 64 → w / 2 ^ n ≢ 0 → (i : ℕ) × (n ≤ i) × T (bit w i)
bit_past n w l h z =
    ⊎_elim
    (λ t. let q = least 64 (λ i. leb n i && bit w i) t in
    (q.0, leb→le n q.0 (fst (leb n q.0) (bit w q.0) q.2), snd (leb n q.0) (bit w q.0) q.2))
    (λ f.
    absurd (z (div-eq_of_lt (lt_of_bits n w
    (λ i k t. f (any_of 64 (λ i. leb n i && bit w i) i (bit_lt 64 w i l t) (both (leb n i) (bit w i) (le→leb n i k) t)))))))
    (decide (any 64 (λ i. leb n i && bit w i)))

pub bits_below : (n w : ℕ) → w / 2 ^ n ≡ 0 → (i : ℕ) × (n ≤ i) × T (bit w i) → ⊥
bits_below n w z q =
    let e : w % 2 ^ n + 2 ^ n * 0 ≡ w = rw z at (mod-add-div w (2 ^ n)) in
    let l : w < 2 ^ n = omega (arith, e, mod-lt w (pow_pos n)) in
    let h : q.0 < n = bit_lt n w q.0 l q.2 in
    let y : ⊥ = omega (arith, h, q.1) in y

-- ---- the segments of a row

abbrev pub route : Table → ℕ → ℕ
route t i = row_segments t.elements (t.way i) (t.first i) (t.second i)

-- rows of one ring with a segment in common overlap
pub meet_overlap : (t : Table) (i j s : ℕ) → t.way i ≡ t.way j → T (bit (route t i) s) → T (bit (route t j) s) → T (overlap t i j)
meet_overlap t i j s w a b =
    ⊎_elim (λ h. h)
    (λ h.
    let none : bit_and (route t i) (route t j) ≡ 0 = both_segments t i j w ∙ (zero_if_apart t i j).1 (is_false (overlap t i j) h) in
    absurd (along (sym (bit_and_lem (route t i) (route t j) s) ∙ ap (λ (w : ℕ). bit w s) none ∙ bit_zero s)
    (both (bit (route t i) s) (bit (route t j) s) a b)))
    (decide (overlap t i j))

-- rows with none do not
pub apart : (t : Table) (i j : ℕ) → t.way i ≡ t.way j → ((s : ℕ) → T (bit (route t i) s) → T (bit (route t j) s) → ⊥)
    → T (overlap t i j) → ⊥
apart t i j e h o =
    let none : bit_and (route t i) (route t j) ≡ 0 =
    bit_ext (bit_and (route t i) (route t j)) 0
    (λ s.
    is_false (bit (bit_and (route t i) (route t j)) s)
    (λ q. let w = along (bit_and_lem (route t i) (route t j) s) q in
    h s (fst (bit (route t i) s) (bit (route t j) s) w) (snd (bit (route t i) s) (bit (route t j) s) w))
    ∙ sym (bit_zero s)) in
    of_false ((zero_if_apart t i j).0 (sym (both_segments t i j e) ∙ none)) o

pub record Used (t : Table) (w i used : ℕ) : Type 0 where
  pub covers : (j : ℕ) → j < i → T (bit w j) → (s : ℕ) → T (bit (route t j) s) → T (bit used s)
  pub taken : (s : ℕ) → T (bit used s) → (j : ℕ) × (j < i) × T (bit w j) × T (bit (route t j) s)
  pub clear : (j k : ℕ) → j < k → k < i → T (bit w j) → T (bit w k) → T (overlap t j k) → ⊥

pub used_start : (t : Table) (w : ℕ) → Used t w 0 0
used_start t w = record {
  covers = λ j l. absurd (not-suc-le-zero l);
  taken = λ s h. absurd (along (bit_zero s) h);
  clear = λ j k l m. absurd (not-suc-le-zero m);
}

-- row i does not move
pub used_skip : {t : Table} {w i used : ℕ} → Used t w i used → (T (bit w i) → ⊥) → Used t w (i + 1) used
used_skip {t} {w} {i} {used} U n = record {
  covers = λ j l b. ⊎_elim (λ (e : j ≡ i). absurd (n (rw e at b))) (λ m. U.covers j m b) (nearly j l);
  taken = λ s h. let q = U.taken s h in (q.0, omega (arith, q.1), q.2, q.3);
  clear = λ j k l m a b. ⊎_elim (λ (e : k ≡ i). absurd (n (rw e at b))) (λ h. U.clear j k l h a b) (nearly k m);
}
  where
    nearly : (j : ℕ) → j < i + 1 → (j ≡ i) ⊎ (j < i)
    nearly j h = ⊎_elim (λ (q : i ≤ j). inl (omega arith)) inr (le_or_lt i j)

module _ {t : Table} {w i used : ℕ} (U : Used t w i used) (b : T (bit w i)) (one : (j : ℕ) → j < i → t.way j ≡ t.way i) where
  -- it shares no segment with those before it
  pub used_add : bit_and used (route t i) ≡ 0 → Used t w (i + 1) (bit_or used (route t i))
  used_add z = record {
    covers = λ j l c s r.
        along (sym (bit_or_lem used (route t i) s))
        (⊎_elim (λ (e : j ≡ i). orr (bit used s) (bit (route t i) s) (rw e at r))
        (λ m. orl (bit used s) (bit (route t i) s) (U.covers j m c s r)) (nearly j l));
    taken = λ s h.
        ⊎_elim (λ a. let q = U.taken s a in (q.0, omega (arith, q.1), q.2, q.3)) (λ a. (i, omega arith, b, a))
        (or_cases (bit used s) (bit (route t i) s) (along (bit_or_lem used (route t i) s) h));
    clear = λ j k l m c d.
        ⊎_elim (λ (e : k ≡ i). rw e (apart t j i (one j (omega arith)) (free j (omega arith) c))) (λ h. U.clear j k l h c d) (nearly k m);
  }
    where
      nearly : (j : ℕ) → j < i + 1 → (j ≡ i) ⊎ (j < i)
      nearly j h = ⊎_elim (λ (q : i ≤ j). inl (omega arith)) inr (le_or_lt i j)

      free : (j : ℕ) → j < i → T (bit w j) → (s : ℕ) → T (bit (route t j) s) → T (bit (route t i) s) → ⊥
      free j l c s x y =
          along (sym (bit_and_lem used (route t i) s) ∙ ap (λ (v : ℕ). bit v s) z ∙ bit_zero s)
          (both (bit used s) (bit (route t i) s) (U.covers j l c s x) y)

  -- it shares one
  pub used_stop : i < t.rows → bit_and used (route t i) ≢ 0 → BadWord t w
  used_stop l n =
      ⊎_elim
      (λ h.
      let q = least i (λ j. bit w j && overlap t j i) h in
      inr (q.0, i, q.1, l, fst (bit w q.0) (overlap t q.0 i) q.2, b, snd (bit w q.0) (overlap t q.0 i) q.2))
      (λ f.
      absurd (n (bit_ext (bit_and used (route t i)) 0
      (λ s. is_false (bit (bit_and used (route t i)) s) (none f s) ∙ sym (bit_zero s)))))
      (decide (any i (λ j. bit w j && overlap t j i)))
    where
      none : (T (any i (λ j. bit w j && overlap t j i)) → ⊥) → (s : ℕ) → T (bit (bit_and used (route t i)) s) → ⊥
      none f s h =
          let v = along (bit_and_lem used (route t i) s) h in
          let q = U.taken s (fst (bit used s) (bit (route t i) s) v) in
          f (any_of i (λ j. bit w j && overlap t j i) q.0 q.1
          (both (bit w q.0) (overlap t q.0 i) q.2
          (meet_overlap t q.0 i s (one q.0 q.1) q.3 (snd (bit used s) (bit (route t i) s) v))))

-- no row is left
pub used_end : {t : Table} {w i used : ℕ} → Used t w i used → i ≡ t.rows → ((k : ℕ) × (t.rows ≤ k) × T (bit w k) → ⊥) → BadWord t w → ⊥
used_end {t} {w} U e p v =
    ⊎_elim p (λ q. U.clear q.0 q.1 q.2 (omega (arith, q.3, e)) q.4 q.5 q.6) v

-- ---- the words of a plan, one after the other

abbrev pub Clean : Table → List ℕ → ℕ → Type 0
Clean t ws n = (s : ℕ) → s < n → BadWord t (at ws s) → ⊥

no_word : (t : Table) → BadWord t 0 → ⊥
no_word t b = ⊎_elim (λ q. along (bit_zero q.0) q.2) (λ q. along (bit_zero q.0) q.4) b

module _ (t : Table) (ws : List ℕ) where
  pub clean_start : Clean t ws 0
  clean_start s l = absurd (not-suc-le-zero l)

  module _ (n : ℕ) where
    pub clean_next : Clean t ws n → (BadWord t (at ws n) → ⊥) → Clean t ws (n + 1)
    clean_next h b s l = ⊎_elim (λ (q : n ≤ s). let e : s ≡ n = omega arith in rw e b) (λ q. h s q) (le_or_lt n s)

    pub clean_found : (m : ℕ) → Clean t ws n → n ≤ m → BadWord t (at ws n) → LowestBad t ws m n
    clean_found m h l b = record { most = l; none = h; bad = λ q. b }

    -- the plan is too short
    pub clean_past : (m : ℕ) → Clean t ws n → length ws ≤ n → LowestBad t ws m m
    clean_past m h l = record {
      most = omega arith;
      none = λ s q. ⊎_elim (λ (k : n ≤ s). rw (past_end ws s (omega arith)) (no_word t)) (λ k. h s k) (le_or_lt n s);
      bad = λ q. absurd (let z : ⊥ = omega arith in z);
    }

    pub clean_end : (m : ℕ) → Clean t ws n → n ≡ m → LowestBad t ws m m
    clean_end m h e = record { most = omega arith; none = rw e at h; bad = λ q. absurd (let z : ⊥ = omega arith in z) }

-- ---- rows of one ring with the same first end, or the same second end, share a segment there

module _ {t : Table} (S : Sound t) (one : t.rings ≡ 1) where
  clock : (i : ℕ) → i < t.rows → t.way i ≡ clockwise
  clock i l = omega (arith, one, (S.row i l).way_known)

  first_element : (i : ℕ) → i < t.rows → Element t.elements (t.first i)
  first_element i l = record { low = (S.row i l).first_low; high = (S.row i l).first_high }

  second_element : (i : ℕ) → i < t.rows → Element t.elements (t.second i)
  second_element i l = record { low = (S.row i l).second_low; high = (S.row i l).second_high }

  differ : (i : ℕ) (l : i < t.rows) → (t.first i < t.second i) ⊎ (t.second i < t.first i)
  differ i l =
      ⊎_elim (λ (h : t.second i ≤ t.first i). ⊎_elim (λ (g : t.first i ≤ t.second i). absurd ((S.row i l).ends_differ (omega arith)))
      inr
      (le_or_lt (t.first i) (t.second i))) inl (le_or_lt (t.second i) (t.first i))

  -- a row uses the segment that begins at element e, of those on its route
  used_at : (i e : ℕ) → i < t.rows → 1 ≤ e → steps t.elements (t.first i) e < steps t.elements (t.first i) (t.second i)
      → T (uses t i (suc (e - 1)))
  unfolding uses
  used_at i e l h m =
      let q : suc (e - 1) ≡ e = omega arith in
      along (sym (clockwise_uses t.elements (t.first i) (t.second i) (suc (e - 1)) (clock i l)))
      (rw q (lt→ltb (steps t.elements (t.first i) e) (steps t.elements (t.first i) (t.second i)) m))

  first_used : (i : ℕ) → i < t.rows → T (uses t i (suc (t.first i - 1)))
  first_used i l =
      let f = first_element i l in
      let g = second_element i l in
      used_at i (t.first i) l f.low
      (⊎_elim
      (λ d. ⊎_elim (λ q. omega (arith, steps_same f, q.1)) (λ q. omega (arith, q.0)) (steps_cases f g))
      (λ d. ⊎_elim (λ q. omega (arith, q.0)) (λ q. omega (arith, steps_same f, q.1, f.high, g.low)) (steps_cases f g))
      (differ i l))

  -- the segment that ends at its second end begins one element before, M before 1
  abbrev last_segment : ℕ → ℕ
  last_segment e = cond (eqb e 1) t.elements (e - 1)

  last_element : (e : ℕ) → Element t.elements e → Element t.elements (last_segment e)
  last_element e g =
      ⊎_elim (λ (h : T (eqb e 1)). rw (is_true (eqb e 1) h) (record { low = omega (arith, S.elements_low); high = omega arith }))
      (λ h. rw (is_false (eqb e 1) h) (record { low = omega (arith, g.low, not_one e h); high = omega (arith, g.high) }))
      (decide (eqb e 1))
    where
      not_one : (e : ℕ) → (T (eqb e 1) → ⊥) → e ≢ 1
      not_one e h q = h (eqb_of e 1 q)

  second_used : (i : ℕ) → i < t.rows → T (uses t i (suc (last_segment (t.second i) - 1)))
  second_used i l =
      let f = first_element i l in
      let g = second_element i l in
      let m = last_element (t.second i) g in
      used_at i (last_segment (t.second i)) l m.low (less i l (decide (eqb (t.second i) 1)))
    where
      less : (i : ℕ) (l : i < t.rows) → T (eqb (t.second i) 1) ⊎ (T (eqb (t.second i) 1) → ⊥)
          → steps t.elements (t.first i) (last_segment (t.second i)) < steps t.elements (t.first i) (t.second i)
      less i l (inl h) =
          let f = first_element i l in
          let g = second_element i l in
          let e : t.second i ≡ 1 = eqb→eq (t.second i) 1 h in
          let m : Element t.elements t.elements = record { low = omega (arith, S.elements_low); high = omega arith } in
          rw (is_true (eqb (t.second i) 1) h)
          (⊎_elim (λ d. omega (arith, e, d, f.low))
          (λ d. ⊎_elim (λ q. omega (arith, q.0)) (λ q. ⊎_elim (λ p. omega (arith, p.1, q.1, e)) (λ p. omega (arith, p.0, f.high))
          (steps_cases f m))
          (steps_cases f g)) (differ i l))
      less i l (inr h) =
          let f = first_element i l in
          let g = second_element i l in
          let n : t.second i ≢ 1 = λ q. h (eqb_of (t.second i) 1 q) in
          let m : Element t.elements (t.second i - 1) = record { low = omega (arith, g.low, n); high = omega (arith, g.high) } in
          rw (is_false (eqb (t.second i) 1) h)
          (⊎_elim
          (λ d. ⊎_elim (λ q. ⊎_elim (λ p. omega (arith, p.1, q.1, m.low)) (λ p. omega (arith, p.0, d)) (steps_cases f m))
          (λ q. omega (arith, q.0)) (steps_cases f g))
          (λ d. ⊎_elim (λ q. omega (arith, q.0)) (λ q. ⊎_elim (λ p. omega (arith, p.0, d)) (λ p. omega (arith, p.1, q.1, m.low))
          (steps_cases f m)) (steps_cases f g))
          (differ i l))

  overlap_at : (i j e : ℕ) → i < t.rows → j < t.rows → Element t.elements e → T (uses t i (suc (e - 1)))
      → T (uses t j (suc (e - 1))) → T (overlap t i j)
  unfolding overlap
  overlap_at i j e l m g a b =
      any_of t.elements (λ s. shares t i j (suc s)) (e - 1) (omega (arith, g.low, g.high))
      (both (eqb (t.way i) (t.way j)) (uses t i (suc (e - 1)) && uses t j (suc (e - 1)))
      (eqb_of (t.way i) (t.way j) (clock i l ∙ sym (clock j m))) (both (uses t i (suc (e - 1))) (uses t j (suc (e - 1))) a b))

  pub first_overlap : (i j : ℕ) → i < t.rows → j < t.rows → t.first i ≡ t.first j → T (overlap t i j)
  first_overlap i j l m e =
      overlap_at i j (t.first i) l m (first_element i l) (first_used i l) (rw e (first_used j m))

  pub second_overlap : (i j : ℕ) → i < t.rows → j < t.rows → t.second i ≡ t.second j → T (overlap t i j)
  second_overlap i j l m e =
      overlap_at i j (last_segment (t.second i)) l m (last_element (t.second i) (second_element i l)) (second_used i l)
      (rw e (second_used j m))
