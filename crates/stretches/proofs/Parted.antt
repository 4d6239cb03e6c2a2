-- A stretch is parted: the slots are tiled as before but for it, and each slot keeps its word and its last end.
--
--   swapped p v g            g, but v where p holds
--   of_parted of m e new, begin_parted begin m new
--                            which stretch a slot lies in, and where a stretch begins, after one that ends at slot e is parted before
--                            slot m
--   number_parted, cursor_parted
--                            the second part has the new number; the walk is at the first part
--   tiles_parted             the stretches tile the slots
--   word_parted, last_parted each slot has the word and the last end that it had
use mathlib.Core.Path.{◌≡◌, sym, ap, ◌∙◌}
use mathlib.Core.Logic.{◌⊎◌, ◌≢◌, inl, inr, ⊎_elim}
use mathlib.Core.List.{List}
use mathlib.Core.Bool.{Bool, cond}
use Prim.Native.Nat.{ℕ, ◌≤◌, ◌<◌}
use native.Mathlib.Omega.{arith}
use lib.Dec.{T, eqb, eqb→eq, eqb_refl}
use lib.ListN.{length, set, length-set}
use lib.Seq.{get_or-set_same, get_or-set_other}
use Rattle.numbers.specs.Lists.{at}
use Rattle.numbers.proofs.Truth.{decide, is_true, is_false, eqb_of, le_or_lt}
use Rattle.stretches.specs.Stretches.{most_stretches, Tiles}
use Rattle.placing.proofs.Scan.{within, within_is, within_of}
use Rattle.stretches.proofs.Stretches.{Cursor, cursor_end, cursor_is, cursor_of}

unfoldable pub swapped : (ℕ → Bool) → ℕ → (ℕ → ℕ) → ℕ → ℕ
swapped p v g u = cond (p u) v (g u)

swapped_in : (p : ℕ → Bool) (v : ℕ) (g : ℕ → ℕ) (u : ℕ) → T (p u) → swapped p v g u ≡ v
unfolding swapped
swapped_in p v g u h = ap (λ (b : Bool). cond b v (g u)) (is_true (p u) h)

swapped_out : (p : ℕ → Bool) (v : ℕ) (g : ℕ → ℕ) (u : ℕ) → (T (p u) → ⊥) → swapped p v g u ≡ g u
unfolding swapped
swapped_out p v g u h = ap (λ (b : Bool). cond b v (g u)) (is_false (p u) h)

abbrev pub of_parted : (ℕ → ℕ) → ℕ → ℕ → ℕ → ℕ → ℕ
of_parted of m e new = swapped (within m e) new of

abbrev pub begin_parted : (ℕ → ℕ) → ℕ → ℕ → ℕ → ℕ
begin_parted begin m new = swapped (λ j. eqb j new) m begin

module _ {l : ℕ} {of begin : ℕ → ℕ} {end after : List ℕ} (t : Tiles l of begin end after) {k s : ℕ} (c : Cursor l of begin k s) (h : s < l)
    (m new : ℕ) (lower : s < m) (upper : m < at end k) (few : new < most_stretches) (fresh : (u : ℕ) → u < l → of u ≢ new)
    (end_size : length end ≡ most_stretches) (after_size : length after ≡ most_stretches) where
  -- slot u lies in the second part, in the first, or in another stretch
  where_is : (u : ℕ) → u < l
      → ((m ≤ u) × (u < at end k) × (of_parted of m (at end k) new u ≡ new))
      ⊎ (((s ≤ u) × (u < m) × (of u ≡ k) × (of_parted of m (at end k) new u ≡ k))
      ⊎ ((of u ≢ k) × (of_parted of m (at end k) new u ≡ of u)))
  where_is u d =
      ⊎_elim
      (λ a. let w = within_is m (at end k) u a in inl (w.0, w.1, swapped_in (within m (at end k)) new of u a))
      (λ a. let q = swapped_out (within m (at end k)) new of u a in
      inr (⊎_elim
      (λ b. let e : of u ≡ k = eqb→eq (of u) k b in
      let w = cursor_is t c h u d e in
      inl (w.0, ⊎_elim (λ v. absurd (a (within_of m (at end k) u v w.1))) (λ v. v) (le_or_lt m u), e, q ∙ e))
      (λ b. inr ((λ e. b (eqb_of (of u) k e)), q))
      (decide (eqb (of u) k))))
      (decide (within m (at end k) u))

  -- outside the second part a slot lies where it did
  stays : (u : ℕ) → (m ≤ u → u < at end k → ⊥) → of_parted of m (at end k) new u ≡ of u
  stays u a = swapped_out (within m (at end k)) new of u (λ w. let v = within_is m (at end k) u w in a v.0 v.1)

  other : k ≢ new
  other q = fresh s h ((c.here h).0 ∙ q)

  new_begin : begin_parted begin m new new ≡ m
  new_begin = swapped_in (λ j. eqb j new) m begin new (eqb_refl new)

  old_begin : (j : ℕ) → j ≢ new → begin_parted begin m new j ≡ begin j
  old_begin j q = swapped_out (λ j. eqb j new) m begin j (λ a. q (eqb→eq j new a))

  low : k < length end
  low = omega (arith, t.few s h, (c.here h).0)

  module _ (xs : List ℕ) (a b : ℕ) (size : length xs ≡ most_stretches) where
    first_part : at (set (set xs new a) k b) k ≡ b
    first_part = get_or-set_same (set xs new a) k b 0 (omega (arith, length-set xs new a, low))

    second_part : at (set (set xs new a) k b) new ≡ a
    second_part = get_or-set_other (set xs new a) k new b 0 (λ q. other (sym q)) ∙ get_or-set_same xs new a 0 (omega arith)

    no_part : (j : ℕ) → j ≢ k → j ≢ new → at (set (set xs new a) k b) j ≡ at xs j
    no_part j p q = get_or-set_other (set xs new a) k j b 0 p ∙ get_or-set_other xs new j a 0 q

  pub number_parted : (u : ℕ) → (of_parted of m (at end k) new u ≡ new) ⊎ (of_parted of m (at end k) new u ≡ of u)
  number_parted u =
      ⊎_elim (λ a. inl (swapped_in (within m (at end k)) new of u a)) (λ a. inr (swapped_out (within m (at end k)) new of u a))
      (decide (within m (at end k) u))

  pub cursor_parted : Cursor l (of_parted of m (at end k) new) (begin_parted begin m new) k s
  cursor_parted = record {
    inside = c.inside;
    here = λ d. (stays s (λ a b. let z : ⊥ = omega arith in z) ∙ (c.here d).0, old_begin k other ∙ (c.here d).1);
  }

  pub tiles_parted : Tiles l (of_parted of m (at end k) new) (begin_parted begin m new) (set (set end new (at end k)) k m)
      (set (set after new (at after k)) k new)
  tiles_parted = record {
    zero = stays 0 (λ a b. let z : ⊥ = omega arith in z) ∙ t.zero;
    few = λ u d.
        ⊎_elim (λ i. omega (arith, i.2)) (⊎_elim (λ i. omega (arith, i.3, low)) (λ i. omega (arith, i.1, t.few u d))) (where_is u d);
    begins = λ u d.
        ⊎_elim
        (λ i. omega (arith, ap (begin_parted begin m new) i.2, new_begin))
        (⊎_elim
        (λ i. omega (arith, ap (begin_parted begin m new) i.3, old_begin k other, (c.here h).1))
        (λ i. omega (arith, ap (begin_parted begin m new) i.1, old_begin (of u) (fresh u d), t.begins u d)))
        (where_is u d);
    ends = λ u d.
        ⊎_elim
        (λ i. let q = ap (at end') i.2 ∙ end_new in (omega arith, omega (arith, cursor_end t c h)))
        (⊎_elim
        (λ i. let q = ap (at end') i.3 ∙ end_k in (omega arith, omega (arith, cursor_end t c h)))
        (λ i. let q = ap (at end') i.1 ∙ end_other (of u) i.0 (fresh u d) in let e = t.ends u d in (omega arith, omega arith)))
        (where_is u d);
    holds = λ u v d a b.
        ⊎_elim
        (λ i.
        let p = ap (begin_parted begin m new) i.2 ∙ new_begin in
        let q = ap (at end') i.2 ∙ end_new in
        swapped_in (within m (at end k)) new of v (within_of m (at end k) v (omega arith) (omega arith)) ∙ sym i.2)
        (⊎_elim
        (λ i.
        let p = ap (begin_parted begin m new) i.3 ∙ old_begin k other ∙ (c.here h).1 in
        let q = ap (at end') i.3 ∙ end_k in
        stays v (λ x y. let z : ⊥ = omega arith in z) ∙ cursor_of t c h v (omega arith) (omega arith) ∙ sym i.3)
        (λ i.
        let p = ap (begin_parted begin m new) i.1 ∙ old_begin (of u) (fresh u d) in
        let q = ap (at end') i.1 ∙ end_other (of u) i.0 (fresh u d) in
        let w = t.holds u v d (omega arith) (omega arith) in
        stays v (λ x y. i.0 (sym w ∙ cursor_of t c h v (omega arith) y)) ∙ w ∙ sym i.1))
        (where_is u d);
    on = λ u d a.
        ⊎_elim
        (λ i.
        let q = ap (at end') i.2 ∙ end_new in
        let e = (c.here h).0 in
        let o = t.on s h (omega (arith, ap (at end) e)) in
        let z = ap (λ (j : ℕ). of (at end j)) e in
        let y = ap of' q ∙ stays (at end k) (λ v w. let z : ⊥ = omega arith in z) in (
          ap (at after') i.2 ∙ after_new ∙ ap (at after) (sym e) ∙ o.0 ∙ z ∙ sym y,
          ap (begin_parted begin m new) y ∙ old_begin (of (at end k)) (fresh (at end k) (omega arith))
              ∙ ap begin (sym z) ∙ o.1 ∙ ap (at end) e ∙ sym q,
        ))
        (⊎_elim
        (λ i.
        let q = ap (at end') i.3 ∙ end_k in
        let y = ap of' q ∙ swapped_in (within m (at end k)) new of m (within_of m (at end k) m (omega arith) upper) in
        (ap (at after') i.3 ∙ after_k ∙ sym y, ap (begin_parted begin m new) y ∙ new_begin ∙ sym q))
        (λ i.
        let q = ap (at end') i.1 ∙ end_other (of u) i.0 (fresh u d) in
        let o = t.on u d (omega arith) in
        let y = ap of' q ∙ stays (at end (of u)) (λ v w.
        let z : ⊥ = omega (arith, o.1, ap begin (cursor_of t c h (at end (of u)) (omega arith) w), (c.here h).1) in z) in (
          ap (at after') i.1 ∙ after_other (of u) i.0 (fresh u d) ∙ o.0 ∙ sym y,
          ap (begin_parted begin m new) y ∙ old_begin (of (at end (of u))) (fresh (at end (of u)) (omega arith)) ∙ o.1 ∙ sym q,
        )))
        (where_is u d);
  }
    where
      end' : List ℕ
      end' = set (set end new (at end k)) k m

      after' : List ℕ
      after' = set (set after new (at after k)) k new

      of' : ℕ → ℕ
      of' = of_parted of m (at end k) new

      end_k : at end' k ≡ m
      end_k = first_part end (at end k) m end_size

      end_new : at end' new ≡ at end k
      end_new = second_part end (at end k) m end_size

      end_other : (j : ℕ) → j ≢ k → j ≢ new → at end' j ≡ at end j
      end_other = no_part end (at end k) m end_size

      after_k : at after' k ≡ new
      after_k = first_part after (at after k) new after_size

      after_new : at after' new ≡ at after k
      after_new = second_part after (at after k) new after_size

      after_other : (j : ℕ) → j ≢ k → j ≢ new → at after' j ≡ at after j
      after_other = no_part after (at after k) new after_size

  pub word_parted : (words : List ℕ) → m < length words → (u : ℕ) → u < l
      → at (set words m (at words s)) (begin_parted begin m new (of_parted of m (at end k) new u)) ≡ at words (begin (of u))
  word_parted words room u d =
      ⊎_elim
      (λ i.
      ap (at words') (ap (begin_parted begin m new) i.2 ∙ new_begin) ∙ get_or-set_same words m (at words s) 0 room
      ∙ ap (at words) (sym (ap begin (cursor_of t c h u (omega arith) i.1) ∙ (c.here h).1)))
      (⊎_elim
      (λ i.
      ap (at words') (ap (begin_parted begin m new) i.3 ∙ old_begin k other ∙ (c.here h).1)
      ∙ get_or-set_other words m s (at words s) 0 (λ q. let z : ⊥ = omega arith in z)
      ∙ ap (at words) (sym (ap begin i.2 ∙ (c.here h).1)))
      (λ i.
      ap (at words') (ap (begin_parted begin m new) i.1 ∙ old_begin (of u) (fresh u d))
      ∙ get_or-set_other words m (begin (of u)) (at words s) 0 (λ q. i.0
      (sym (t.holds u m d (omega arith) (omega (arith, t.begins u d, t.ends u d))) ∙ cursor_of t c h m (omega arith) upper))))
      (where_is u d)
    where
      words' : List ℕ
      words' = set words m (at words s)

  pub last_parted : (last : List ℕ) → length last ≡ most_stretches → (u : ℕ) → u < l
      → at (set last new (at last k)) (of_parted of m (at end k) new u) ≡ at last (of u)
  last_parted last size u d =
      ⊎_elim
      (λ i.
      ap (at last') i.2 ∙ get_or-set_same last new (at last k) 0 (omega arith)
      ∙ ap (at last) (sym (cursor_of t c h u (omega arith) i.1)))
      (⊎_elim
      (λ i. ap (at last') i.3 ∙ get_or-set_other last new k (at last k) 0 other ∙ ap (at last) (sym i.2))
      (λ i. ap (at last') i.1 ∙ get_or-set_other last new (of u) (at last k) 0 (fresh u d)))
      (where_is u d)
    where
      last' : List ℕ
      last' = set last new (at last k)
