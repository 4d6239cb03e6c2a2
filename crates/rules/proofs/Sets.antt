-- Laws of document 01's overlap sets, over n rows and any test o whether two rows overlap. A set is known by its word, the list has every
-- set, and only one list fits.
--
--   bits_are              a set of rows below n is the bits of its word
--   minimum               a set with a row has a least
--   set_row, set_least    so has every overlap set of some rows
--   set_in, sets_only     every overlap set stands in the list; two lists are the same
--   set_test, sets_by     overlap sets, and a table's list of them, by tests that compute
use mathlib.Core.Path.{◌≡◌, sym, ap, ◌∙◌, subst, fun_ext}
use mathlib.Core.Logic.{⊎_elim}
use mathlib.Core.List.{List}
use mathlib.Core.Bool.{Bool, ◌&&◌}
use Prim.Native.Nat.{ℕ, zero, suc, ◌^◌, ◌≤◌, ◌<◌}
use native.Mathlib.Nat.{le_refl, not-suc-le-zero, lt_irrefl}
use native.Mathlib.Omega.{arith}
use lib.Dec.{T, ltb, eqb, lt→ltb, eqb→eq, eqb_refl}
use lib.ListN.{length}
use lib.Seq.{ext_get_or}
use Rattle.numbers.specs.Finite.{any}
use Rattle.numbers.specs.Word.{bit, word}
use Rattle.numbers.specs.Lists.{at}
use Rattle.numbers.proofs.Truth.{both, fst, snd, same, decide, le_or_lt}
use Rattle.numbers.proofs.Finite.{any_of, least}
use Rattle.numbers.proofs.Word.{bit_word, bit_lt, lt_of_bits}
use Rattle.rules.specs.Bus.{Table, overlap}
use Rattle.rules.specs.Line.{OverlapSet, Least, SetList, Sets, line_second}
use Rattle.numbers.proofs.Tests.{Test, holds_test, lt_test, eq_test, as_test, and_test, three_test, if_test, every_test, any_test}

-- ---- a set of rows

module _ (n : ℕ) (D : ℕ → Bool) (rows : (i : ℕ) → T (D i) → i < n) where
  pub bits_are : bit (word n D) ≡ D
  bits_are =
      fun_ext (λ i. bit_word n D i
      ∙ same (ltb i n && D i) (D i) (snd (ltb i n) (D i)) (λ h. both (ltb i n) (D i) (lt→ltb i n (rows i h)) h))

  pub minimum : (g : ℕ → ℕ) (j : ℕ) → T (D j) → (e : ℕ) × Least g D e
  minimum g j t =
      let hits_at : (i : ℕ) → T (D i) → T (hits (g i)) =
      λ i u. any_of n (hit (g i)) i (rows i u) (both (D i) (eqb (g i) (g i)) u (eqb_refl (g i))) in
      let r = least (suc (g j)) hits (any_of (suc (g j)) hits (g j) (le_refl (suc (g j))) (hits_at j t)) in
      let m = least n (hit r.0) r.2 in (
        r.0,
        record {
          reached = (m.0, fst (D m.0) _ m.2, eqb→eq _ _ (snd (D m.0) _ m.2));
          under = λ i u. let k : ¬ (g i < r.0) = λ l. r.3 (g i) l (hits_at i u) in omega arith;
        },
      )
    where
      hit : ℕ → ℕ → Bool
      hit e i = D i && eqb (g i) e

      hits : ℕ → Bool
      hits e = any n (hit e)

module _ {n : ℕ} {o : ℕ → ℕ → Bool} where
  -- an overlap set of some rows has a row: one could be added to the empty set
  pub set_row : 0 < n → {D : ℕ → Bool} → OverlapSet n o D → (j : ℕ) × T (D j)
  set_row pos {D} S =
      ⊎_elim (λ a. let r = least n D a in (r.0, r.2))
      (λ b. (0, S.full 0 pos (λ i h. absurd (b (any_of n D i (S.rows i h) h)))))
      (decide (any n D))

  pub set_least : 0 < n → (g : ℕ → ℕ) {D : ℕ → Bool} → OverlapSet n o D → (e : ℕ) × Least g D e
  set_least pos g {D} S = let j = set_row pos S in minimum n D S.rows g j.0 j.1

-- ---- the list of all sets

module _ {n : ℕ} {o : ℕ → ℕ → Bool} {s : ℕ → ℕ} where
  pub set_in : {ws : List ℕ} {D : ℕ → Bool} → SetList n o s ws → OverlapSet n o D → (k : ℕ) × (k < length ws) × (bit (at ws k) ≡ D)
  set_in {ws} {D} A S =
      let e : bit (word n D) ≡ D = bits_are n D S.rows in
      let r = A.all (word n D) (subst (OverlapSet n o) (sym e) S) in
      (r.0, r.1, ap bit r.2 ∙ e)

  module _ (pos : 0 < n) where
    -- no set stands twice
    set_once : {ws : List ℕ} → SetList n o s ws → (k l : ℕ) → k < l → l < length ws → at ws k ≡ at ws l → ⊥
    set_once A k l h m e =
        let a = set_least pos s (A.each l m) in
        lt_irrefl a.0 (A.order k l a.0 a.0 h m (subst (λ (w : ℕ). Least s (bit w) a.0) (sym e) a.1) a.1)

    module _ {ws vs : List ℕ} (A : SetList n o s ws) (B : SetList n o s vs) where
      -- by recursion on a bound of the place
      same_at : (b k : ℕ) → k < b → k < length ws → k < length vs → at ws k ≡ at vs k
      same_at zero k l h i = absurd (not-suc-le-zero l)
      same_at (suc b) k l h i =
          let m = B.all (at ws k) (A.each k h) in
          let q = A.all (at vs k) (B.each k i) in
          let mk : ¬ (m.0 < k) = λ z. set_once A m.0 k z h (same_at b m.0 (omega arith) (omega arith) m.1 ∙ m.2) in
          let qk : ¬ (q.0 < k) = λ z. set_once B q.0 k z i (sym (same_at b q.0 (omega arith) q.1 (omega arith)) ∙ q.2) in
          ⊎_elim
          (λ (z : m.0 ≤ k). sym m.2 ∙ ap (at vs) (let e : m.0 ≡ k = omega arith in e))
          (λ (z : k < m.0). ⊎_elim
          (λ (y : q.0 ≤ k). ap (at ws) (let e : k ≡ q.0 = omega arith in e) ∙ q.2)
          (λ (y : k < q.0).
          let a = set_least pos s (A.each k h) in
          let c = set_least pos s (B.each k i) in
          let u : a.0 < c.0 = A.order k q.0 a.0 c.0 y q.1 a.1
          (subst (λ (w : ℕ). Least s (bit w) c.0) (sym q.2) c.1) in
          let v : c.0 < a.0 = B.order k m.0 c.0 a.0 z m.1 c.1
          (subst (λ (w : ℕ). Least s (bit w) a.0) (sym m.2) a.1) in
          absurd (let f : ⊥ = omega arith in f))
          (le_or_lt q.0 k))
          (le_or_lt m.0 k)

      no_longer : length vs < length ws → ⊥
      no_longer h =
          let m = B.all (at ws (length vs)) (A.each (length vs) h) in
          set_once A m.0 (length vs) m.1 h (same_at (suc m.0) m.0 (le_refl _) (omega (arith, m.1)) m.1 ∙ m.2)

    pub sets_only : {ws vs : List ℕ} → SetList n o s ws → SetList n o s vs → ws ≡ vs
    sets_only {ws} {vs} A B =
        let x : ¬ (length vs < length ws) = no_longer A B in
        let y : ¬ (length ws < length vs) = no_longer B A in
        ext_get_or 0 ws vs (omega arith) (λ i h. same_at A B (suc i) i (le_refl (suc i)) h (omega arith))

-- ---- tests that compute

module _ (n : ℕ) (o : ℕ → ℕ → Bool) (w : ℕ) where
  pub set_is : w < 2 ^ n → ((i : ℕ) → i < n → (j : ℕ) → j < n → T (bit w i) × T (bit w j) → T (o i j))
      → ((k : ℕ) → k < n → ((i : ℕ) → i < n → T (bit w i) → T (o k i)) → T (bit w k)) → OverlapSet n o (bit w)
  set_is h p f = record {
    rows = λ i a. bit_lt n w i h a;
    pairs = λ i j a b. p i (bit_lt n w i h a) j (bit_lt n w j h b) (a, b);
    full = λ k l g. f k l (λ i m a. g i a);
  }

  pub set_below : OverlapSet n o (bit w) → w < 2 ^ n
  set_below A = lt_of_bits n w (λ i l a. omega (arith, A.rows i a))

  abbrev pub set_test : Test (OverlapSet n o (bit w))
  set_test =
      as_test (three_test
      (lt_test w (2 ^ n))
      (every_test n (λ i. every_test n (λ j. if_test (and_test (holds_test (bit w i)) (holds_test (bit w j))) (holds_test (o i j)))))
      (every_test n (λ k. if_test (every_test n (λ i. if_test (holds_test (bit w i)) (holds_test (o k i)))) (holds_test (bit w k)))))
      (λ h. set_is h.0 h.1 h.2)
      (λ A. (set_below A, (λ i l j m h. A.pairs i j h.0 h.1), (λ k l f. A.full k l (λ i a. f i (A.rows i a) a))))

module _ (t : Table) (ws : List ℕ) where
  -- each is an overlap set
  abbrev Sound : Type 0
  Sound = (k : ℕ) → k < length ws → OverlapSet t.rows (overlap t) (bit (at ws k))

  -- every overlap set is there; its word is below 2 ^ rows
  abbrev Complete : Type 0
  Complete = (w : ℕ) → w < 2 ^ t.rows → OverlapSet t.rows (overlap t) (bit w) → (k : ℕ) × (k < length ws) × (at ws k ≡ w)

  -- some row of an earlier set ends before all rows of a later one
  abbrev Ordered : Type 0
  Ordered =
      (l : ℕ) → l < length ws → (k : ℕ) → k < l
      → (j : ℕ) × (j < t.rows)
      × (T (bit (at ws k) j) × ((i : ℕ) → i < t.rows → T (bit (at ws l) i) → line_second t j < line_second t i))

  abbrev pub sets_test : Test (Sound × Complete × Ordered)
  sets_test =
      three_test
      (every_test (length ws) (λ k. set_test t.rows (overlap t) (at ws k)))
      (every_test (2 ^ t.rows) (λ w. if_test (set_test t.rows (overlap t) w) (any_test (length ws) (λ k. eq_test (at ws k) w))))
      (every_test (length ws) (λ l. every_test l (λ k. any_test t.rows (λ j.
      and_test (holds_test (bit (at ws k) j))
      (every_test t.rows (λ i. if_test (holds_test (bit (at ws l) i)) (lt_test (line_second t j) (line_second t i))))))))

  pub sets_by : T sets_test.test → Sets t ws
  sets_by h =
      let r = sets_test.is h in
      record {
        each = r.0;
        all = λ w A. r.1 w (set_below t.rows (overlap t) w A) A;
        order = λ k l d e b m x y.
            let a = r.2 l m k b in
            let i = y.reached in
            let z : line_second t a.0 < line_second t i.0 = a.2.1 i.0 ((r.0 l m).rows i.0 i.1) i.1 in
            omega (arith, x.under a.0 a.2.0, i.2);
      }
