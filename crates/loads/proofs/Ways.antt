-- Laws of ways: how they grow, what a way to the tail of an arc gives, what it says of an arc that there is none, and the search as a
-- whole.
use mathlib.Core.Path.{◌≡◌, refl, sym, ap, ◌∙◌}
use mathlib.Core.Bool.{Bool, true, false, ◌&&◌, ◌||◌, true≢false, false≢true}
use mathlib.Core.Logic.{◌≢◌, ◌⊎◌, inl, inr}
use Prim.Native.Nat.{ℕ, suc, ◌+◌, ◌-◌, ◌*◌, ◌≤◌, ◌<◌}
use native.Mathlib.Decide.{dec_lt, ℕ_discrete}
use native.Mathlib.Nat.{mul-le-mul_right}
use native.Mathlib.Omega.{arith}
use lib.Bits.{bit_and}
use lib.Dec.{eqb, ltb}
use borrow.Author.Tests.{eq-eqb, ne_eqb, eqb-true, lt-ltb, ltb-true}
use Rattle.numbers.specs.Finite.{sum_in, only}
use Rattle.numbers.specs.Word.{bit}
use Rattle.numbers.proofs.Finite.{only_true, only_false, only_add, only_scaled, sum_add, sum_eq, sum_scaled, sum_but, le_additive}
use Rattle.numbers.proofs.Word.{bit_zero, bit_and_lem}
use Rattle.loads.specs.declared.flow.Arcs.{Arcs}
use Rattle.loads.specs.Network.{Net, Circulation, Within, Put}
use Rattle.loads.specs.Raised.{Pushed, Best}
use Rattle.loads.specs.Way.{Stride, Way, Shut, Toggled, With, WaysFrom, Visited, Entered, Done, ByNode, Wired, Narrow, Shown}
use Rattle.loads.proofs.Network.{put, put_is, sum_put}
use Rattle.loads.proofs.Closed.{closed_best}
use Rattle.loads.proofs.Words.{or_left, or_not, or_same, or_right, and_both, and_left, one_of, unseen}

-- ---- ways grow

module _ (G : Net) (may : ℕ → Bool) (x : ℕ → ℕ) (s : ℕ) where
  pub way_none : (seen : ℕ → Bool) → Circulation G x → Way G may seen x x s s
  way_none seen c = record { owed = λ r. omega (arith, c r); arc = λ e l. inl refl }

  module _ (seen seen' : ℕ → Bool) (x' : ℕ → ℕ) (v : ℕ) (wider : (u : ℕ) → seen u ≡ true → seen' u ≡ true)
      (w : Way G may seen x x' s v) where
    same_or : (e : ℕ) → e < G.arcs → (x' e ≡ x e) ⊎ Stride G may seen' x x' e
    same_or e l = go (w.arc e l)
      where
        go : (x' e ≡ x e) ⊎ Stride G may seen x x' e → (x' e ≡ x e) ⊎ Stride G may seen' x x' e
        go (inl q) = inl q
        go (inr t) = inr (record { free = t.free; begins = wider _ t.begins; ends = wider _ t.ends; one = t.one })

    pub way_wider : Way G may seen' x x' s v
    way_wider = record { owed = w.owed; arc = same_or }

    -- one arc that may change, to a node not seen before
    module _ (c : ℕ) (l : c < G.arcs) (m : may c ≡ true) (b : seen' (G.tail c) ≡ true) (h : seen' (G.head c) ≡ true) where
      -- the arcs after it is put to v
      arcs_put : (x'' : ℕ → ℕ) (u : ℕ) → Put x' c u x''
          → ((u ≡ x c + 1) × (x c < G.high c)) ⊎ ((x c ≡ u + 1) × (G.low c < x c))
          → (e : ℕ) → e < G.arcs → (x'' e ≡ x e) ⊎ Stride G may seen' x x'' e
      arcs_put x'' u p o e k = go (ℕ_discrete e c) (same_or e k)
        where
          go : Dec (e ≡ c) → (x' e ≡ x e) ⊎ Stride G may seen' x x' e → (x'' e ≡ x e) ⊎ Stride G may seen' x x'' e
          go (yes q) d = inr (rw q (record { free = m; begins = b; ends = h; one = rw p.0 o }))
          go (no q) (inl d) = inl (p.1 e q ∙ d)
          go (no q) (inr d) =
              inr (record { free = d.free; begins = d.begins; ends = d.ends; one = rw (p.1 e q) d.one })

      pub way_ahead : (x'' : ℕ → ℕ) → G.tail c ≡ v → x' c ≡ x c → x c < G.high c → Put x' c (x' c + 1) x''
          → Way G may seen' x x'' s (G.head c)
      way_ahead x'' t q up p = record {
        owed = λ r.
            omega (
              arith,
              w.owed r,
              sum_put G.arcs (λ e. r (G.tail e)) x' x'' c (x' c + 1) l p,
              sum_put G.arcs (λ e. r (G.head e)) x' x'' c (x' c + 1) l p,
              only_add (r (G.tail c)) (x' c) 1,
              only_add (r (G.head c)) (x' c) 1,
              ap (λ (k : ℕ). only (r k) 1) t,
            );
        arc = arcs_put x'' (x' c + 1) p (inl (omega arith, up));
      }

      pub way_back : (x'' : ℕ → ℕ) → G.head c ≡ v → x' c ≡ x c → G.low c < x c → Put x' c (x' c - 1) x''
          → Way G may seen' x x'' s (G.tail c)
      way_back x'' t q down p =
          let k : x' c ≡ x' c - 1 + 1 = omega arith in record {
            owed = λ r.
                omega (
                  arith,
                  w.owed r,
                  sum_put G.arcs (λ e. r (G.tail e)) x' x'' c (x' c - 1) l p,
                  sum_put G.arcs (λ e. r (G.head e)) x' x'' c (x' c - 1) l p,
                  ap (only (r (G.tail c))) k ∙ only_add (r (G.tail c)) (x' c - 1) 1,
                  ap (only (r (G.head c))) k ∙ only_add (r (G.head c)) (x' c - 1) 1,
                  ap (λ (k : ℕ). only (r k) 1) t,
                );
            arc = arcs_put x'' (x' c - 1) p (inr (omega arith, down));
          }

  -- an arc with an end that is not seen has not changed
  pub way_fresh : (seen : ℕ → Bool) (x' : ℕ → ℕ) (v c : ℕ) → Way G may seen x x' s v → c < G.arcs
      → (seen (G.tail c) ≡ false) ⊎ (seen (G.head c) ≡ false) → x' c ≡ x c
  way_fresh seen x' v c w l d = go (w.arc c l) d
    where
      go : (x' c ≡ x c) ⊎ Stride G may seen x x' c → (seen (G.tail c) ≡ false) ⊎ (seen (G.head c) ≡ false) → x' c ≡ x c
      go (inl q) d = q
      go (inr t) (inl f) = absurd (true≢false (sym t.begins ∙ f))
      go (inr t) (inr f) = absurd (true≢false (sym t.ends ∙ f))

  -- an arc that may not change has not
  pub way_kept : (seen : ℕ → Bool) (x' : ℕ → ℕ) (v c : ℕ) → Way G may seen x x' s v → c < G.arcs → may c ≡ false → x' c ≡ x c
  way_kept seen x' v c w l f = go (w.arc c l)
    where
      go : (x' c ≡ x c) ⊎ Stride G may seen x x' c → x' c ≡ x c
      go (inl q) = q
      go (inr t) = absurd (true≢false (sym t.free ∙ f))

  -- an arc that is within its bounds stays within them; and no arc is further below than it was
  pub way_within : (seen : ℕ → Bool) (x' : ℕ → ℕ) (v c : ℕ) → Way G may seen x x' s v → c < G.arcs
      → (x c ≤ G.high c → x' c ≤ G.high c) × (G.low c ≤ x c → G.low c ≤ x' c) × (x c < G.low c → x c ≤ x' c)
  way_within seen x' v c w l = go (w.arc c l)
    where
      steps : ((x' c ≡ x c + 1) × (x c < G.high c)) ⊎ ((x c ≡ x' c + 1) × (G.low c < x c))
          → (x c ≤ G.high c → x' c ≤ G.high c) × (G.low c ≤ x c → G.low c ≤ x' c) × (x c < G.low c → x c ≤ x' c)
      steps (inl o) = (λ k. omega (arith, o.0, o.1), λ k. omega (arith, o.0), λ k. omega (arith, o.0))
      steps (inr o) = (λ k. omega (arith, o.0), λ k. omega (arith, o.0, o.1), λ k. absurd (omega (arith, o.1)))

      go : (x' c ≡ x c) ⊎ Stride G may seen x x' c
          → (x c ≤ G.high c → x' c ≤ G.high c) × (G.low c ≤ x c → G.low c ≤ x' c) × (x c < G.low c → x c ≤ x' c)
      go (inl q) = (λ k. omega arith, λ k. omega arith, λ k. omega arith)
      go (inr t) = steps t.one

-- ---- a way from the head of arc i to its tail: one more by arc i

module _ (G : Net) (may seen : ℕ → Bool) (x x' x'' : ℕ → ℕ) (i : ℕ) (l : i < G.arcs) (f : may i ≡ false)
    (w : Way G may seen x x' (G.head i) (G.tail i)) (p : Put x' i (x' i + 1) x'') where
  pub way_circ : Circulation G x''
  way_circ r =
      omega (
        arith,
        w.owed r,
        sum_put G.arcs (λ e. r (G.tail e)) x' x'' i (x' i + 1) l p,
        sum_put G.arcs (λ e. r (G.head e)) x' x'' i (x' i + 1) l p,
        only_add (r (G.tail i)) (x' i) 1,
        only_add (r (G.head i)) (x' i) 1,
      )

  pub way_pushed : Within G x → ((e : ℕ) → e < i → may e ≡ false) → x i < G.high i → Pushed G i x x''
  way_pushed wi below up = record {
    circ = way_circ;
    within = λ e k. go e k (ℕ_discrete e i);
    kept = λ e k. p.1 e (omega arith) ∙ way_kept G may x (G.head i) seen x' (G.tail i) e w (omega arith) (below e k);
    more = p.0 ∙ ap (λ (k : ℕ). k + 1) own;
  }
    where
      own : x' i ≡ x i
      own = way_kept G may x (G.head i) seen x' (G.tail i) i w l f

      go : (e : ℕ) → e < G.arcs → Dec (e ≡ i) → (G.low e ≤ x'' e) × (x'' e ≤ G.high e)
      go e k (yes q) = rw q (omega (arith, p.0, own, wi i l), omega (arith, p.0, own))
      go e k (no q) =
          let z = way_within G may x (G.head i) seen x' (G.tail i) e w k in
          rw (p.1 e q) (z.1 (wi e k).0, z.0 (wi e k).1)

-- ---- no way

module _ (G : Net) (may seen : ℕ → Bool) (x : ℕ → ℕ) (i : ℕ) (l : i < G.arcs) (c : Circulation G x) (s : Shut G may seen x)
    (start : seen (G.head i) ≡ true) (out : seen (G.tail i) ≡ false) where
  -- arc i carries the most that it can
  pub shut_best : Within G x → ((e : ℕ) → i < e → may e ≡ true) → Best G i x
  shut_best w m =
      closed_best G i x seen l c
      (record {
        inside = start;
        outside = out;
        full = λ e k g p q. omega (arith, s.ahead e k (m e g) p q, w e k);
        bare = λ e k g p q. omega (arith, s.back e k (m e g) p q, w e k);
      })

  -- Arc i carries no less than y, a circulation in units of 1 / h that is within the bounds: so an arc below its bounds always has a way.
  pub shut_enough : (h : ℕ) (y : ℕ → ℕ) → Circulation G y
      → ((e : ℕ) → e < G.arcs → (G.low e * h ≤ y e) × (y e ≤ G.high e * h)) → ((e : ℕ) → e ≢ i → may e ≡ true) → y i ≤ x i * h
  shut_enough h y cy wy m =
      let T : (ℕ → ℕ) → ℕ → ℕ = λ z e. only (seen (G.tail e)) (z e) in
      let H : (ℕ → ℕ) → ℕ → ℕ = λ z e. only (seen (G.head e)) (z e) in
      let X : ℕ → ℕ = λ e. x e * h in
      let k = sum_but ◌≤◌ le_additive G.arcs (λ e. H X e + T y e) (λ e. T X e + H y e) i l (λ e g ne. term e g ne) in
      omega (
        arith,
        k,
        sum_add G.arcs (H X) (T y),
        sum_add G.arcs (T X) (H y),
        scaled (λ e. seen (G.tail e)),
        scaled (λ e. seen (G.head e)),
        ap (λ (u : ℕ). u * h) (c seen),
        cy seen,
        only_true (seen (G.head i)) (X i) start,
        only_true (seen (G.head i)) (y i) start,
        only_false (seen (G.tail i)) (X i) out,
        only_false (seen (G.tail i)) (y i) out,
      )
    where
      scaled : (D : ℕ → Bool) → sum_in G.arcs D (λ e. x e * h) ≡ sum_in G.arcs D x * h
      scaled D =
          sum_eq G.arcs (λ e. only (D e) (x e * h)) (λ e. only (D e) (x e) * h) (λ e g. only_scaled (D e) (x e) h)
          ∙ sum_scaled G.arcs (λ e. only (D e) (x e)) h

      by_ends : (p q : Bool) (X Y : ℕ) → (p ≡ true → q ≡ false → Y ≤ X) → (q ≡ true → p ≡ false → X ≤ Y)
          → only q X + only p Y ≤ only p X + only q Y
      by_ends true true X Y f g = omega arith
      by_ends true false X Y f g = omega (
        arith,
        f refl refl,
        only_true true X refl,
        only_true true Y refl,
        only_false false X refl,
        only_false false Y refl,
      )
      by_ends false true X Y f g = omega (
        arith,
        g refl refl,
        only_true true X refl,
        only_true true Y refl,
        only_false false X refl,
        only_false false Y refl,
      )
      by_ends false false X Y f g = omega arith

      term : (e : ℕ) → e < G.arcs → e ≢ i
          → only (seen (G.head e)) (x e * h) + only (seen (G.tail e)) (y e)
          ≤ only (seen (G.tail e)) (x e * h) + only (seen (G.head e)) (y e)
      term e g ne =
          by_ends (seen (G.tail e)) (seen (G.head e)) (x e * h) (y e)
          (λ p q. omega (arith, mul-le-mul_right h (s.ahead e g (m e ne) p q), wy e g))
          (λ p q. omega (arith, mul-le-mul_right h (s.back e g (m e ne) p q), wy e g))

-- ---- the search: nodes seen, and the words that are toggled on the way to each

module _ (n : ℕ) (x : ℕ → ℕ) where
  pub toggled_none : Toggled n 0 x x
  toggled_none = record { inside = λ e l q. absurd (false≢true (sym (bit_zero e) ∙ q)); outside = λ e l q. refl }

  -- the arc c, which carried what it did, is put to its other digit
  pub toggled_next : (w c w' u : ℕ) (x' x'' : ℕ → ℕ) → Toggled n w x x' → With n w c w' → Put x' c u x''
      → (c < n → u ≡ 1 - x c) → Toggled n w' x x''
  toggled_next w c w' u x' x'' t j p o = record {
    inside = λ e l q. go e l (ℕ_discrete e c) q;
    outside = λ e l q.
        let ne : e ≢ c = λ z. true≢false (sym (or_right (bit w e) (eqb e c) (eq-eqb e c z)) ∙ sym (j e l) ∙ q) in
        p.1 e ne ∙ t.outside e l (or_not (bit w e) (eqb e c) (sym (j e l) ∙ q));
  }
    where
      go : (e : ℕ) → e < n → Dec (e ≡ c) → bit w' e ≡ true → x'' e ≡ 1 - x e
      go e l (yes z) q = rw z (p.0 ∙ o (omega arith))
      go e l (no z) q = p.1 e z ∙ t.inside e l (sym (or_same (bit w e) (eqb e c) (ne_eqb e c z)) ∙ sym (j e l) ∙ q)

module _ (n : ℕ) (G : Net) (may : ℕ → Bool) (x : ℕ → ℕ) (s : ℕ) where
  pub reached_start : (seen : ℕ) (by : ℕ → ℕ) → Circulation G x → ((u : ℕ) → bit seen u ≡ eqb u s) → by s ≡ 0 → WaysFrom n G may x s seen by
  reached_start seen by c one z = record {
    start = one s ∙ eq-eqb s s refl;
    way = λ v q.
        let e : v ≡ s = eqb-true v s (sym (one v) ∙ q) in
        (x, rw e (way_none G may x s (bit seen) c), rw (e, z) (toggled_none n x));
  }

  -- the nodes reached from u: their arcs had no part in the way to u
  module _ (m u way seen seen' : ℕ) (by by' : ℕ → ℕ) (go : ℕ → Bool) (far : ℕ → ℕ) (few : n ≤ m) (us : bit seen u ≡ true)
      (old : (x' : ℕ → ℕ) × Way G may (bit seen) x x' s u × Toggled n way x x') (R : WaysFrom n G may x s seen by)
      (two : (c : ℕ) → c < n → (x c ≤ 1) × (G.high c ≤ 1)) (Z : Visited m go far way seen seen' by by') where
    -- the ways to the nodes seen before, and to each that came
    grow : ((v c : ℕ) → go c ≡ true → far c ≡ v → bit seen v ≡ false → bit seen' v ≡ true → With n way c (by' v)
        → (x' : ℕ → ℕ) × Way G may (bit seen') x x' s v × Toggled n (by' v) x x') → WaysFrom n G may x s seen' by'
    grow new = record { start = (Z.kept s R.start).0; way = λ v q. by_case v q (bit seen v) refl }
      where
        by_case : (v : ℕ) → bit seen' v ≡ true → (b : Bool) → bit seen v ≡ b
            → (x' : ℕ → ℕ) × Way G may (bit seen') x x' s v × Toggled n (by' v) x x'
        by_case v q true e =
            let o = R.way v e in
            (o.0, way_wider G may x s (bit seen) (bit seen') o.0 v (λ w z. (Z.kept w z).0) o.1, rw (Z.kept v e).1 o.2)
        by_case v q false e = let w = Z.came v e q in new v w.0 w.1 w.2 e q (λ e l. w.3 e (omega arith))

    -- the way to u is still one
    pub old_still : (x' : ℕ → ℕ) × Way G may (bit seen') x x' s u × Toggled n way x x'
    old_still = (old.0, way_wider G may x s (bit seen) (bit seen') old.0 u (λ w z. (Z.kept w z).0) old.1, old.2)

    pub reached_ahead : ((c : ℕ) → go c ≡ true → (c < G.arcs) × (G.tail c ≡ u) × (G.head c ≡ far c) × (may c ≡ true) × (x c < G.high c))
        → WaysFrom n G may x s seen' by'
    reached_ahead arc = grow (λ v c g f e e' j.
        let a = arc c g in
        let h : G.head c ≡ v = a.2 ∙ f in
        let q : old.0 c ≡ x c = way_fresh G may x s (bit seen) old.0 u c old.1 a.0 (inr (ap (bit seen) h ∙ e)) in
        let y : ℕ → ℕ = put old.0 c (old.0 c + 1) in
        let pc = put_is old.0 c (old.0 c + 1) in (
          y,
          rw h at (way_ahead G may x s (bit seen) (bit seen') old.0 u (λ w z. (Z.kept w z).0) old.1 c a.0 a.3
              (ap (bit seen') a.1 ∙ (Z.kept u us).0) (ap (bit seen') h ∙ e') y a.1 q a.4 pc),
          toggled_next n x way c (by' v) (old.0 c + 1) old.0 y old.2 j pc (λ k. omega (arith, q, two c k, a.4)),
        ))

    pub reached_back : ((c : ℕ) → go c ≡ true → (c < G.arcs) × (G.head c ≡ u) × (G.tail c ≡ far c) × (may c ≡ true) × (G.low c < x c))
        → WaysFrom n G may x s seen' by'
    reached_back arc = grow (λ v c g f e e' j.
        let a = arc c g in
        let t : G.tail c ≡ v = a.2 ∙ f in
        let q : old.0 c ≡ x c = way_fresh G may x s (bit seen) old.0 u c old.1 a.0 (inl (ap (bit seen) t ∙ e)) in
        let y : ℕ → ℕ = put old.0 c (old.0 c - 1) in
        let pc = put_is old.0 c (old.0 c - 1) in (
          y,
          rw t at (way_back G may x s (bit seen) (bit seen') old.0 u (λ w z. (Z.kept w z).0) old.1 c a.0 a.3
              (ap (bit seen') t ∙ e') (ap (bit seen') a.1 ∙ (Z.kept u us).0) y a.1 q a.4 pc),
          toggled_next n x way c (by' v) (old.0 c - 1) old.0 y old.2 j pc (λ k. omega (arith, q, two c k, a.4)),
        ))

module _ (G : Net) (may : ℕ → Bool) (x : ℕ → ℕ) where
  pub done_start : (seen : ℕ) → Done G may x seen 0
  done_start seen = record {
    ahead = λ e l m d s. absurd (false≢true (sym (bit_zero (G.tail e)) ∙ d));
    back = λ e l m d s. absurd (false≢true (sym (bit_zero (G.head e)) ∙ d));
  }

  -- node v is done: all that it leads to is seen
  pub done_next : (seen seen' done done' v : ℕ) → Done G may x seen done → ((u : ℕ) → bit seen u ≡ true → bit seen' u ≡ true)
      → ((u : ℕ) → bit done' u ≡ (bit done u || eqb u v))
      → ((e : ℕ) → e < G.arcs → may e ≡ true → G.tail e ≡ v → bit seen' (G.head e) ≡ false → G.high e ≤ x e)
      → ((e : ℕ) → e < G.arcs → may e ≡ true → G.head e ≡ v → bit seen' (G.tail e) ≡ false → x e ≤ G.low e)
      → Done G may x seen' done'
  done_next seen seen' done done' v D wider one ahead back = record {
    ahead = λ e l m d s. go_ahead e l m d s (ℕ_discrete (G.tail e) v);
    back = λ e l m d s. go_back e l m d s (ℕ_discrete (G.head e) v);
  }
    where
      was : (u : ℕ) → u ≢ v → bit done' u ≡ true → bit done u ≡ true
      was u ne d = sym (or_same (bit done u) (eqb u v) (ne_eqb u v ne)) ∙ sym (one u) ∙ d

      go_ahead : (e : ℕ) → e < G.arcs → may e ≡ true → bit done' (G.tail e) ≡ true → bit seen' (G.head e) ≡ false
          → Dec (G.tail e ≡ v) → G.high e ≤ x e
      go_ahead e l m d s (yes q) = ahead e l m q s
      go_ahead e l m d s (no q) = D.ahead e l m (was (G.tail e) q d) (unseen seen seen' (G.head e) (wider (G.head e)) s)

      go_back : (e : ℕ) → e < G.arcs → may e ≡ true → bit done' (G.head e) ≡ true → bit seen' (G.tail e) ≡ false
          → Dec (G.head e ≡ v) → x e ≤ G.low e
      go_back e l m d s (yes q) = back e l m q s
      go_back e l m d s (no q) = D.back e l m (was (G.head e) q d) (unseen seen seen' (G.tail e) (wider (G.tail e)) s)

  -- all that is seen is done
  pub done_shut : (seen done : ℕ) → seen ≡ done → Done G may x seen done → Shut G may (bit seen) x
  done_shut seen done q D = record {
    ahead = λ e l m t h. D.ahead e l m (ap (λ (k : ℕ). bit k (G.tail e)) (sym q) ∙ t) h;
    back = λ e l m h t. D.back e l m (ap (λ (k : ℕ). bit k (G.head e)) (sym q) ∙ h) t;
  }

-- ---- what a visit gives

-- one node, by a set
pub entered_visited : (m n k : ℕ) (on : Bool) (far : ℕ → ℕ) (p way seen seen' : ℕ) (by by' : ℕ → ℕ) → m ≤ n → far (n + k) ≡ p
    → Entered on p way seen seen' by by' → Visited m (λ c. eqb c (n + k) && on) far way seen seen' by by'
entered_visited m n k on far p way seen seen' by by' l f P = record {
  kept = P.kept;
  came = λ v e q.
      let w = P.came v e q in (
        n + k,
        rw w.0 (and-true (eqb (n + k) (n + k)) (eq-eqb (n + k) (n + k) refl)),
        f ∙ sym w.1,
        λ c g. ap (λ (z : ℕ). bit z c) w.2 ∙ sym (or_same (bit way c) (eqb c (n + k)) (ne_eqb c (n + k) (omega arith))),
      );
  swept = λ c q.
      let w = and_both (eqb c (n + k)) on q in
      rw (eqb-true c (n + k) w.0, f) (P.swept w.1);
}
  where
    and-true : (b : Bool) → b ≡ true → (b && true) ≡ true
    and-true true e = refl
    and-true false e = e

module _ (seen : ℕ) (by : ℕ → ℕ) where
  pub entered_seen : (p w : ℕ) → bit seen p ≡ true → Entered true p w seen seen by by
  entered_seen p w q = record { kept = λ v e. (e, refl); came = λ v f t. absurd (true≢false (sym t ∙ f)); swept = λ _. q }

  pub entered_not : (on : Bool) (p w : ℕ) → on ≡ false → Entered on p w seen seen by by
  entered_not on p w q =
      record { kept = λ v e. (e, refl); came = λ v f t. absurd (true≢false (sym t ∙ f)); swept = λ t. absurd (true≢false (sym t ∙ q)) }

  pub entered_on : (on : Bool) (p w seen' : ℕ) (by' : ℕ → ℕ) → on ≡ true → Entered true p w seen seen' by by' → Entered on p w seen seen' by
      by'
  entered_on on p w seen' by' e P = rw e P

  pub entered_new : (p w seen' : ℕ) (by' : ℕ → ℕ) → bit seen p ≡ false → ((v : ℕ) → bit seen' v ≡ (bit seen v || eqb v p)) → Put by p w by'
      → Entered true p w seen seen' by by'
  entered_new p w seen' by' f one pt = record {
    kept = λ v e. (one v ∙ or_left (bit seen v) _ e, pt.1 v (λ q. true≢false (sym e ∙ ap (bit seen) q ∙ f)));
    came = λ v e t. go v e t (ℕ_discrete v p);
    swept = λ _. one p ∙ or_right (bit seen p) (eqb p p) (eq-eqb p p refl);
  }
    where
      go : (v : ℕ) → bit seen v ≡ false → bit seen' v ≡ true → Dec (v ≡ p) → (true ≡ true) × (v ≡ p) × (by' v ≡ w)
      go v e t (yes q) = (refl, q, rw q pt.0)
      go v e t (no q) = absurd (true≢false (sym (sym (or_same (bit seen v) _ (ne_eqb v p q)) ∙ sym (one v) ∙ t) ∙ e))

-- the rows of a word, one after the other
module _ (rows : ℕ) (far : ℕ → ℕ) (way seen : ℕ) (by : ℕ → ℕ) where
  pub visit_start : Visited 64 (bit 0) far way seen seen by by
  visit_start = record {
    kept = λ v e. (e, refl);
    came = λ v f t. absurd (true≢false (sym t ∙ f));
    swept = λ c q. absurd (false≢true (sym (bit_zero c) ∙ q));
  }

  pub visit_next : (done done' i w seen' seen'' : ℕ) (by' by'' : ℕ → ℕ) → Visited 64 (bit done) far way seen seen' by by'
      → ((v : ℕ) → bit done' v ≡ (bit done v || eqb v i)) → ((e : ℕ) → bit w e ≡ (bit way e || eqb e i))
      → Entered true (far i) w seen' seen'' by' by'' → Visited 64 (bit done') far way seen seen'' by by''
  visit_next done done' i w seen' seen'' by' by'' Z one j P = record {
    kept = λ v e. let a = Z.kept v e in let b = P.kept v a.0 in (b.0, b.1 ∙ a.1);
    came = λ v f t. go v f t (bit seen' v) refl;
    swept = λ c q. met c q (ℕ_discrete c i);
  }
    where
      go : (v : ℕ) → bit seen v ≡ false → bit seen'' v ≡ true → (b : Bool) → bit seen' v ≡ b
          → (c : ℕ) × (bit done' c ≡ true) × (far c ≡ v) × With 64 way c (by'' v)
      go v f t true e =
          let a = Z.came v f e in
          (a.0, one a.0 ∙ or_left (bit done a.0) _ a.1, a.2, λ c g. ap (λ (z : ℕ). bit z c) (P.kept v e).1 ∙ a.3 c g)
      go v f t false e =
          let a = P.came v e t in
          (i, one i ∙ or_right (bit done i) (eqb i i) (eq-eqb i i refl), sym a.1, λ c g. ap (λ (z : ℕ). bit z c) a.2 ∙ j c)

      met : (c : ℕ) → bit done' c ≡ true → Dec (c ≡ i) → bit seen'' (far c) ≡ true
      met c q (yes e) = rw e (P.swept refl)
      met c q (no e) =
          (P.kept (far c) (Z.swept c (sym (or_same (bit done c) (eqb c i) (ne_eqb c i e)) ∙ sym (one c) ∙ q))).0

-- the nodes seen stay on a line of K sets
visited_line : (K m : ℕ) (go : ℕ → Bool) (far : ℕ → ℕ) (way seen seen' : ℕ) (by by' : ℕ → ℕ) → Visited m go far way seen seen' by by'
    → ((c : ℕ) → go c ≡ true → far c ≤ K) → ((v : ℕ) → bit seen v ≡ true → v ≤ K) → (v : ℕ) → bit seen' v ≡ true → v ≤ K
visited_line K m go far way seen seen' by by' Z on line v q = by_case (bit seen v) refl
  where
    by_case : (b : Bool) → bit seen v ≡ b → v ≤ K
    by_case true e = line v e
    by_case false e = let w = Z.came v e q in omega (arith, on w.0 w.1, w.2)

entered_line : (K : ℕ) (on : Bool) (p way seen seen' : ℕ) (by by' : ℕ → ℕ) → Entered on p way seen seen' by by' → (on ≡ true → p ≤ K)
    → ((v : ℕ) → bit seen v ≡ true → v ≤ K) → (v : ℕ) → bit seen' v ≡ true → v ≤ K
entered_line K on p way seen seen' by by' Z l line v q = by_case (bit seen v) refl
  where
    by_case : (b : Bool) → bit seen v ≡ b → v ≤ K
    by_case true e = line v e
    by_case false e = let w = Z.came v e q in omega (arith, l w.0, w.1)

-- ---- a node that is gone on from

-- the nodes that the code's words name
module _ (n K : ℕ) (tail head out into : ℕ → ℕ) (W : Wired n K tail head out into) where
  ends_there : (end words : ℕ → ℕ) → ByNode n K end words → (v i w : ℕ) → v ≤ K → bit (bit_and (words v) w) i ≡ true
      → (i < n) × (end i ≡ v) × (bit w i ≡ true)
  ends_there end words B v i w l q =
      let a = and_left (words v) w i q in
      let b = and_both (ltb i n) (eqb (end i) v) (sym (B v i l) ∙ a.0) in
      (ltb-true i n b.0, eqb-true (end i) v b.1, a.1)

  pub out_node : (v i w : ℕ) → v ≤ K → bit (bit_and (out v) w) i ≡ true → (i < n) × (tail i ≡ v) × (bit w i ≡ true)
  out_node = ends_there tail out W.starting

  pub into_node : (v i w : ℕ) → v ≤ K → bit (bit_and (into v) w) i ≡ true → (i < n) × (head i ≡ v) × (bit w i ≡ true)
  into_node = ends_there head into W.ending

  found_at : (end words : ℕ → ℕ) → ByNode n K end words → (v i w : ℕ) → v ≤ K → i < n → end i ≡ v → bit w i ≡ true
      → bit (bit_and (words v) w) i ≡ true
  found_at end words B v i w l m e q = bit_and_lem (words v) w i ∙ go (bit (words v) i) (bit w i)
      (B v i l ∙ rw (lt-ltb i n m, eq-eqb (end i) v e)) q
    where
      go : (a b : Bool) → a ≡ true → b ≡ true → (a && b) ≡ true
      go true b p q = q
      go false b p q = p

  pub leave_line : (A : Arcs) (N : Narrow K A) (u way seen one two three four : ℕ) (by by1 by2 by3 by4 : ℕ → ℕ) → u ≤ K
      → Visited 64 (bit (bit_and (out u) A.up)) head way seen one by by1 → Visited 64 (bit (bit_and (into u) A.down)) tail way one
      two by1 by2
      → Entered (bit A.more u) (u - 1) way two three by2 by3 → Entered (bit A.less u) (u + 1) way three four by3 by4
      → ((v : ℕ) → bit seen v ≡ true → v ≤ K) → (v : ℕ) → bit four v ≡ true → v ≤ K
  leave_line A N u way seen one two three four by by1 by2 by3 by4 ul a b c d line =
      entered_line K (bit A.less u) (u + 1) way three four by3 by4 d (λ q. omega (arith, N.less u q))
      (entered_line K (bit A.more u) (u - 1) way two three by2 by3 c (λ q. omega arith)
      (visited_line K 64 (bit (bit_and (into u) A.down)) tail way one two by1 by2 b
      (λ i q. (W.ends i (into_node u i A.down ul q).0).0)
      (visited_line K 64 (bit (bit_and (out u) A.up)) head way seen one by by1 a (λ i q. (W.ends i (out_node u i A.up ul q).0).1)
      line)))

  module _ (A : Arcs) (N : Narrow K A) (G : Net) (may : ℕ → Bool) (x : ℕ → ℕ) (S : Shown n K G may x tail head A) (s : ℕ)
      (u way seen one two three four : ℕ) (by by1 by2 by3 by4 : ℕ → ℕ) (ul : u ≤ K) (us : bit seen u ≡ true) (wu : way ≡ by u)
      (a : Visited 64 (bit (bit_and (out u) A.up)) head way seen one by by1)
      (b : Visited 64 (bit (bit_and (into u) A.down)) tail way one two by1 by2)
      (c : Entered (bit A.more u) (u - 1) way two three by2 by3)
      (d : Entered (bit A.less u) (u + 1) way three four by3 by4) where
    up_one : bit one u ≡ true
    up_one = (a.kept u us).0

    up_two : bit two u ≡ true
    up_two = (b.kept u up_one).0

    up_three : bit three u ≡ true
    up_three = (c.kept u up_two).0

    pub leave_wider : (v : ℕ) → bit seen v ≡ true → bit four v ≡ true
    leave_wider v q = (d.kept v (c.kept v (b.kept v (a.kept v q).0).0).0).0

    -- the sets at u, as arcs
    down_set : Visited n (λ e. eqb e (n + (u - 1)) && bit A.more u) (λ e. e - n) way two three by2 by3
    down_set = entered_visited n n (u - 1) (bit A.more u) (λ e. e - n) (u - 1) way two three by2 by3 (omega arith) (omega arith) c

    up_set : Visited n (λ e. eqb e (n + u) && bit A.less u) (λ e. suc (e - n)) way three four by3 by4
    up_set = entered_visited n n u (bit A.less u) (λ e. suc (e - n)) (u + 1) way three four by3 by4 (omega arith) (omega arith) d

    pub leave_reached : WaysFrom n G may x s seen by → WaysFrom n G may x s four by4
    leave_reached R =
        let o1 : (x' : ℕ → ℕ) × Way G may (bit seen) x x' s u × Toggled n way x x' = rw wu (R.way u us) in
        let R1 = reached_ahead n G may x s 64 u way seen one by by1 (bit (bit_and (out u) A.up)) head W.few_rows us o1 R S.digits a
        (λ e q. let p = out_node u e A.up ul q in
        let t = (S.up e p.0).can p.2 in
        (omega (arith, S.arcs, p.0), (S.rows e p.0).0 ∙ p.1, (S.rows e p.0).1, t.0, t.1)) in
        let o2 = old_still n G may x s 64 u way seen one by by1 (bit (bit_and (out u) A.up)) head W.few_rows us o1 R S.digits a in
        let R2 = reached_back n G may x s 64 u way one two by1 by2 (bit (bit_and (into u) A.down)) tail W.few_rows up_one o2 R1
        S.digits b
        (λ e q. let p = into_node u e A.down ul q in
        let t = (S.down e p.0).can p.2 in
        (omega (arith, S.arcs, p.0), (S.rows e p.0).1 ∙ p.1, (S.rows e p.0).0, t.0, t.1)) in
        let o3 = old_still n G may x s 64 u way one two by1 by2 (bit (bit_and (into u) A.down)) tail W.few_rows up_one o2 R1
        S.digits b in
        let R3 = reached_ahead n G may x s n u way two three by2 by3 (λ e. eqb e (n + (u - 1)) && bit A.more u) (λ e. e - n)
        (omega arith) up_two o3 R2 S.digits down_set
        (λ e q. let p = and_both (eqb e (n + (u - 1))) (bit A.more u) q in
        let z : e ≡ n + (u - 1) = eqb-true e (n + (u - 1)) p.0 in
        let w = N.more u p.1 in
        let k : u - 1 < K = omega (arith, w) in
        let v : suc (u - 1) ≡ u = omega (arith, w) in
        let t = (S.more (u - 1) k).can (ap (bit A.more) v ∙ p.1) in
        rw z (omega (arith, S.arcs), (S.sets (u - 1) k).0 ∙ v, (S.sets (u - 1) k).1 ∙ omega arith, t.0, t.1)) in
        let o4 = old_still n G may x s n u way two three by2 by3 (λ e. eqb e (n + (u - 1)) && bit A.more u) (λ e. e - n)
        (omega arith) up_two o3 R2 S.digits down_set in
        reached_back n G may x s n u way three four by3 by4 (λ e. eqb e (n + u) && bit A.less u) (λ e. suc (e - n))
        (omega arith) up_three o4 R3 S.digits up_set
        (λ e q. let p = and_both (eqb e (n + u)) (bit A.less u) q in
        let z : e ≡ n + u = eqb-true e (n + u) p.0 in
        let k = N.less u p.1 in
        let t = (S.less u k).can p.1 in
        rw z (omega (arith, S.arcs), (S.sets u k).1, (S.sets u k).0 ∙ omega arith, t.0, t.1))

    -- every arc at u leads to a seen node, or can take no more
    pub leave_done : (done done' : ℕ) → ((v : ℕ) → bit done' v ≡ (bit done v || eqb v u)) → Done G may x seen done → Done G may x four done'
    leave_done done done' one' D =
        done_next G may x seen four done done' u D leave_wider one'
        (λ e l m t f. ahead e l m t f (dec_lt e n)) (λ e l m h f. back e l m h f (dec_lt e n))
      where
        ahead : (e : ℕ) → e < G.arcs → may e ≡ true → G.tail e ≡ u → bit four (G.head e) ≡ false → Dec (e < n) → G.high e ≤ x e
        ahead e l m t f (yes g) = go (bit A.up e) refl
          where
            go : (r : Bool) → bit A.up e ≡ r → G.high e ≤ x e
            go true q =
                let p = found_at tail out W.starting u e A.up ul g (sym (S.rows e g).0 ∙ t) q in
                absurd (true≢false (sym (d.kept _ (c.kept _ (b.kept _ (a.swept e p)).0).0).0 ∙ ap (bit four)
                (sym (S.rows e g).1) ∙ f))
            go false q = (S.up e g).cannot q m
        ahead e l m t f (no g) = go (bit A.more u) refl
          where
            k : ℕ
            k = e - n

            is : n + k ≡ e
            is = omega arith

            k_k : k < K
            k_k = omega (arith, S.arcs)

            ku : suc k ≡ u
            ku = sym (S.sets k k_k).0 ∙ ap G.tail is ∙ t

            go : (r : Bool) → bit A.more u ≡ r → G.high e ≤ x e
            go true q =
                let w : u - 1 ≡ G.head e = omega (arith, ku, (S.sets k k_k).1, ap G.head is) in
                absurd (true≢false (sym (d.kept _ (c.swept q)).0 ∙ ap (bit four) w ∙ f))
            go false q = rw is at ((S.more k k_k).cannot (ap (bit A.more) ku ∙ q) (ap may is ∙ m))

        back : (e : ℕ) → e < G.arcs → may e ≡ true → G.head e ≡ u → bit four (G.tail e) ≡ false → Dec (e < n) → x e ≤ G.low e
        back e l m h f (yes g) = go (bit A.down e) refl
          where
            go : (r : Bool) → bit A.down e ≡ r → x e ≤ G.low e
            go true q =
                let p = found_at head into W.ending u e A.down ul g (sym (S.rows e g).1 ∙ h) q in
                absurd (true≢false (sym (d.kept _ (c.kept _ (b.swept e p)).0).0 ∙ ap (bit four) (sym (S.rows e g).0) ∙ f))
            go false q = (S.down e g).cannot q m
        back e l m h f (no g) = go (bit A.less u) refl
          where
            k : ℕ
            k = e - n

            is : n + k ≡ e
            is = omega arith

            k_k : k < K
            k_k = omega (arith, S.arcs)

            ku : k ≡ u
            ku = sym (S.sets k k_k).1 ∙ ap G.head is ∙ h

            go : (r : Bool) → bit A.less u ≡ r → x e ≤ G.low e
            go true q =
                let w : u + 1 ≡ G.tail e = omega (arith, ku, (S.sets k k_k).0, ap G.tail is) in
                absurd (true≢false (sym (d.swept q) ∙ ap (bit four) w ∙ f))
            go false q = rw is at ((S.less k k_k).cannot (ap (bit A.less) ku ∙ q) (ap may is ∙ m))

-- what is done is seen
pub leave_within : (u seen seen' done done' : ℕ) → ((v : ℕ) → bit seen v ≡ true → bit seen' v ≡ true) → bit seen u ≡ true
    → ((v : ℕ) → bit done' v ≡ (bit done v || eqb v u)) → ((v : ℕ) → bit done v ≡ true → bit seen v ≡ true)
    → (v : ℕ) → bit done' v ≡ true → bit seen' v ≡ true
leave_within u seen seen' done done' wider us one sub v q =
    wider v (one_of (bit done v) v u (sym (one v) ∙ q) (sub v) (λ e. rw e us))
