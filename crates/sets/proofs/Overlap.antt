-- What the overlap sets of rows on a line are: the rows across an element at which some row ends and before which, since the last second
-- end, some row has started. Rows are the numbers below n; row i runs from element first i to element second i.
--
--   started n first second e    some row that starts before e meets no second end on its way to e
--   closes n first second e     the rows across e are an overlap set, and e is their least second end
use mathlib.Core.Path.{◌≡◌, refl}
use mathlib.Core.Logic.{◌⊎◌, inl, inr, ⊎_elim}
use mathlib.Core.Bool.{Bool, false, not, ◌&&◌, ◌||◌}
use Prim.Native.Nat.{ℕ, zero, suc, ◌-◌, ◌≤◌, ◌<◌}
use native.Mathlib.Nat.{le_refl, not-suc-le-zero}
use native.Mathlib.Omega.{arith}
use lib.Dec.{T, ltb, leb, eqb, ltb→lt, lt→ltb, leb→le, le→leb, eqb→eq}
use Rattle.numbers.specs.Finite.{any}
use Rattle.numbers.proofs.Truth.{both, fst, snd, orl, orr, or_cases, decide, refuted, refutes, same, eqb_of}
use Rattle.numbers.proofs.Finite.{below, any_of, least}
use Rattle.rules.specs.Line.{meet, OverlapSet, Least}
use Rattle.rules.proofs.Sets.{minimum}
pub use Rattle.rules.proofs.Ties.{meet_is, meet_of}
use Rattle.sets.specs.Walk.{across, ends_at}

unfoldable pub started : ℕ → (first second : ℕ → ℕ) → ℕ → Bool
started n first second zero = false
started n first second (suc e) = ends_at n first e || (started n first second e && not (ends_at n second e))

abbrev pub closes : ℕ → (first second : ℕ → ℕ) → ℕ → Bool
closes n first second e = ends_at n second e && started n first second e

-- ---- tests as facts

module _ (n : ℕ) (first second : ℕ → ℕ) (e i : ℕ) where
  pub across_is : T (across n first second e i) → (i < n) × (first i < e) × (e ≤ second i)
  unfolding across
  across_is h =
      let k : T (ltb (first i) e && leb e (second i)) = snd (ltb i n) _ h in
      (ltb→lt i n (fst (ltb i n) _ h), ltb→lt (first i) e (fst (ltb (first i) e) _ k), leb→le e (second i) (snd (ltb (first i) e) _ k))

  pub across_of : i < n → first i < e → e ≤ second i → T (across n first second e i)
  unfolding across
  across_of h k l = both (ltb i n) _ (lt→ltb i n h) (both (ltb (first i) e) (leb e (second i)) (lt→ltb _ _ k) (le→leb _ _ l))

module _ (n : ℕ) (ends : ℕ → ℕ) (e : ℕ) where
  pub ends_is : T (ends_at n ends e) → (j : ℕ) × (j < n) × (ends j ≡ e)
  ends_is h = let r = least n (λ j. eqb (ends j) e) h in (r.0, r.1, eqb→eq _ _ r.2)

  pub ends_of : (j : ℕ) → j < n → ends j ≡ e → T (ends_at n ends e)
  ends_of j l q = any_of n (λ j. eqb (ends j) e) j l (eqb_of _ _ q)

-- ---- the least of g over a set

pub least_same : {g : ℕ → ℕ} {D : ℕ → Bool} {d e : ℕ} → Least g D d → Least g D e → d ≡ e
least_same {g} h k =
    omega (arith, h.under k.reached.0 k.reached.1, k.under h.reached.0 h.reached.1, h.reached.2, k.reached.2)

module _ (n : ℕ) (first second : ℕ → ℕ) where
  -- ---- the one bool of the walk

  pub started_is : (e : ℕ) → T (started n first second e)
      → (i : ℕ) × (i < n) × (first i < e) × ((k : ℕ) → k < n → first i < second k → second k < e → ⊥)
  unfolding started
  started_is zero h = absurd h
  started_is (suc e) h =
      ⊎_elim
      (λ a. let r = ends_is n first e a in (r.0, r.1, omega (arith, r.2), λ k l p q. omega (arith, r.2)))
      (λ a. let r = started_is e (fst (started n first second e) _ a) in (
        r.0,
        r.1,
        omega (arith, r.2),
        λ k l p q.
            ⊎_elim
            (λ (w : second k ≡ e). refutes (ends_at n second e) (snd (started n first second e) _ a) (ends_of n second e k l w))
            (λ w. r.3 k l p w)
            (below q),
      ))
      (or_cases (ends_at n first e) _ h)

  pub started_of : (e i : ℕ) → i < n → first i < e → ((k : ℕ) → k < n → first i < second k → second k < e → ⊥)
      → T (started n first second e)
  unfolding started
  started_of zero i l h o = absurd (not-suc-le-zero h)
  started_of (suc e) i l h o =
      ⊎_elim
      (λ (q : first i ≡ e). orl (ends_at n first e) _ (ends_of n first e i l q))
      (λ (q : first i < e). orr (ends_at n first e) _
      (both (started n first second e) _ (started_of e i l q (λ k m p w. o k m p (omega arith)))
      (refuted (ends_at n second e) (λ a. let r = ends_is n second e a in o r.0 r.1 (omega (arith, r.2)) (omega (arith, r.2))))))
      (below h)

  -- ---- an overlap set is known by its least second end

  -- it is exactly the rows across that end
  pub exact : {D : ℕ → Bool} {e : ℕ} → OverlapSet n (meet first second) D → Least second D e → (i : ℕ) → D i ≡ across n first second e i
  exact {D} {e} o m i =
      let j = m.reached.0 in
      let starts : (k : ℕ) → T (D k) → first k < e =
      λ k t. omega (arith, meet_is first second k j (o.pairs k j t m.reached.1), m.reached.2) in
      same (D i) (across n first second e i)
      (λ t. across_of n first second e i (o.rows i t) (starts i t) (m.under i t))
      (λ t. let a = across_is n first second e i t in
      o.full i a.0 (λ k u. meet_of first second i k (omega (arith, m.under k u)) (omega (arith, starts k u))))

  module _ (line : (i : ℕ) → i < n → first i < second i) where
    pub closing : (e : ℕ) → T (closes n first second e)
        → OverlapSet n (meet first second) (across n first second e) × Least second (across n first second e) e
    closing e h =
        let j = ends_is n second e (fst (ends_at n second e) _ h) in
        let r = started_is e (snd (ends_at n second e) _ h) in
        let ends : T (across n first second e j.0) =
        across_of n first second e j.0 j.1 (omega (arith, line j.0 j.1, j.2)) (omega (arith, j.2)) in
        let after : (i : ℕ) → i < n → first r.0 < second i → e ≤ second i =
        λ i l p. let k : ¬ (second i < e) = r.3 i l p in omega arith in
        let starts : T (across n first second e r.0) =
        across_of n first second e r.0 r.1 r.2 (after r.0 r.1 (line r.0 r.1)) in (
          record {
            rows = λ i t. (across_is n first second e i t).0;
            pairs = λ i k t u.
                let a = across_is n first second e i t in
                let b = across_is n first second e k u in
                meet_of first second i k (omega arith) (omega arith);
            full = λ k l o.
                across_of n first second e k l (omega (arith, meet_is first second k j.0 (o j.0 ends), j.2))
                (after k l (meet_is first second k r.0 (o r.0 starts)).1);
          },
          record { reached = (j.0, ends, j.2); under = λ i t. (across_is n first second e i t).2 },
        )

    -- rows that all overlap one another are across an end that closes a set: the least second end after the last of their first ends
    pub closing_inside : (C : ℕ → Bool) → ((i : ℕ) → T (C i) → i < n)
        → ((i j : ℕ) → T (C i) → T (C j) → T (meet first second i j)) → (j : ℕ) → T (C j)
        → (e : ℕ) × T (closes n first second e) × ((i : ℕ) → T (C i) → T (across n first second e i))
    closing_inside C rows pairs j t =
        let m = minimum n C rows second j t in
        let e = m.0 in
        let b = minimum n C rows (λ i. e - first i) j t in
        let p = m.1.reached in
        let q = b.1.reached in
        let starts : (i : ℕ) → T (C i) → first i < e =
        λ i u. omega (arith, meet_is first second i p.0 (pairs i p.0 u p.1), p.2) in
        let start : first q.0 < e = starts q.0 q.1 in
        let last : (i : ℕ) → T (C i) → first i ≤ first q.0 = λ i u. omega (arith, b.1.under i u, q.2, starts i u) in
        let next : ℕ → Bool = λ x. ltb (first q.0) x && ends_at n second x in
        let r = least (suc e) next (any_of (suc e) next e (le_refl (suc e))
        (both (ltb (first q.0) e) _ (lt→ltb _ _ start) (ends_of n second e p.0 (rows p.0 p.1) p.2))) in
        let after : first q.0 < r.0 = ltb→lt _ _ (fst (ltb (first q.0) r.0) _ r.2) in (
          r.0,
          both (ends_at n second r.0) _ (snd (ltb (first q.0) r.0) _ r.2)
              (started_of r.0 q.0 (rows q.0 q.1) after
              (λ k l u v.
              r.3 (second k) v (both (ltb (first q.0) (second k)) _ (lt→ltb _ _ u) (ends_of n second (second k) k l refl)))),
          λ i u. across_of n first second r.0 i (rows i u) (omega (arith, last i u)) (omega (arith, m.1.under i u, r.1)),
        )

    -- rows that all overlap one another lie inside an overlap set
    pub inside : (C : ℕ → Bool) → ((i : ℕ) → T (C i) → i < n)
        → ((i j : ℕ) → T (C i) → T (C j) → T (meet first second i j)) → (j : ℕ) → T (C j)
        → (D : ℕ → Bool) × OverlapSet n (meet first second) D × ((i : ℕ) → T (C i) → T (D i))
    inside C rows pairs j t =
        let c = closing_inside C rows pairs j t in
        (across n first second c.0, (closing c.0 c.1).0, c.2)

    -- an overlap set is closed by its least second end
    pub closed : 0 < n → {D : ℕ → Bool} → OverlapSet n (meet first second) D
        → (e : ℕ) × T (closes n first second e) × Least second D e × ((i : ℕ) → D i ≡ across n first second e i)
    closed pos {D} o =
        let j = member (decide (any n D)) in
        let c = closing_inside D o.rows o.pairs j.0 j.1 in
        let z = closing c.0 c.1 in
        let back : (k : ℕ) → T (across n first second c.0 k) → T (D k) =
        λ k t. o.full k (across_is n first second c.0 k t).0 (λ i u. z.0.pairs k i t (c.2 i u)) in
        let r = z.1.reached in (
          c.0,
          c.1,
          record { reached = (r.0, back r.0 r.1, r.2); under = λ i u. z.1.under i (c.2 i u) },
          λ i. same (D i) (across n first second c.0 i) (c.2 i) (back i),
        )
      where
        member : T (any n D) ⊎ (T (any n D) → ⊥) → (j : ℕ) × T (D j)
        member (inl h) = let r = least n D h in (r.0, r.2)
        member (inr h) = absurd (h (any_of n D 0 pos (o.full 0 pos (λ i t. absurd (h (any_of n D i (o.rows i t) t))))))
