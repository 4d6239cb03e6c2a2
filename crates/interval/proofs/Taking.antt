-- The greedy theorem: rows that are rounded up in turn, where all their sets have room left, are the greatest loads, if no set's sum is
-- then below its parts rounded down.
use mathlib.Core.Path.{◌≡◌, refl, sym, ap, ◌∙◌}
use mathlib.Core.Bool.{Bool, true, false, ◌&&◌, ◌||◌, true≢false}
use mathlib.Core.Logic.{◌≢◌}
use Prim.Native.Nat.{ℕ, zero, suc, ◌+◌, ◌-◌, ◌*◌, ◌≤◌, ◌<◌}
use native.Mathlib.Decide.{dec_lt, dec_le, ℕ_discrete}
use native.Mathlib.Nat.{mul-le-mul_right, lt_of_mul-lt-mul_right}
use native.Mathlib.Omega.{arith}
use lib.Dec.{eqb, ltb}
use borrow.Author.Tests.{eq-eqb, ne_eqb, lt-ltb, le-ltb, ltb-true}
use Rattle.numbers.specs.Finite.{sum_in, only}
use Rattle.numbers.specs.Rounding.{up, Rounded}
use Rattle.numbers.specs.Word.{bit}
use Rattle.numbers.proofs.Finite.{only_true, only_false, only_zero, only_le, sum_but, sum_zero, eq_additive, sum_one}
use Rattle.numbers.proofs.Rounding.{up_over, rounded_is, rounded_of, rounded_between}
use Rattle.numbers.proofs.Word.{bit_zero}
use Rattle.loads.specs.Network.{Put}
use Rattle.loads.proofs.Words.{or_same, or_right, and_both, in_first}
use Rattle.rules.specs.Interval.{Greatest}
use Rattle.loads.specs.Loads.{in_set, digit, none, Spans, Parts, Summed, Qualified}
use Rattle.loads.specs.Line.{carried, line}
use Rattle.loads.proofs.Line.{covers_in, covers_before, covers_after}
use Rattle.loads.proofs.Choice.{both, zero_plus, sum_none}
use Rattle.loads.proofs.Settling.{digit_on, digit_off, carried_row, carried_set}
use Rattle.interval.specs.Taken.{Open, Lowered, Uneven, Fits, Taken}

and_none : (b : Bool) → (b && false) ≡ false
and_none true = refl
and_none false = refl

and_all : (b : Bool) → (b && true) ≡ b
and_all true = refl
and_all false = refl

module _ (n K : ℕ) (a b : ℕ → ℕ) (h : ℕ) (f : ℕ → ℕ) (S : Spans n K a b) (P : Parts n h f) where
  -- ---- before the first row

  pub taken_start : (left : ℕ → ℕ) → Summed n K a b f left → Taken n K 0 a b h f 0 left
  taken_start left s = record {
    sets = λ k l. omega (arith, s k l, ap (λ (u : ℕ). u * h) (none_yet k));
    fits = record {
      rows = λ i l. rounded_of (f i) h P.some (digit 0 i) (omega (arith, ap (λ (u : ℕ). (u + 1) * h) (off i), P.row i l))
          (omega (arith, ap (λ (u : ℕ). u * h) (off i), P.some));
      sets = λ k l. omega (arith, ap (λ (u : ℕ). u * h) (none_yet k), P.some);
    };
    rest = λ i l. bit_zero i;
    best = λ z g i l. absurd (omega arith);
  }
    where
      off : (i : ℕ) → digit 0 i ≡ 0
      off i = digit_off 0 i (bit_zero i)

      none_yet : (k : ℕ) → sum_in n (in_set a b k) (digit 0) ≡ 0
      none_yet k = sum_zero n _ (λ i l. ap (only (in_set a b k i)) (off i) ∙ only_zero (in_set a b k i))

  -- ---- one row

  module _ (m top : ℕ) (left : ℕ → ℕ) (l : m < n) (t : Taken n K m a b h f top left) where
    off : digit top m ≡ 0
    off = digit_off top m (t.rest m (omega arith))

    -- the rows below m + 1 are the greatest, if row m is
    next_best : (top' : ℕ) → ((j : ℕ) → j < m → digit top' j ≡ digit top j)
        → ((z : ℕ → ℕ) → Fits n K a b h f z → ((j : ℕ) → j < m → z j ≡ digit top j) → z m ≤ digit top' m)
        → (z : ℕ → ℕ) → Fits n K a b h f z → (i : ℕ) → i < m + 1 → ((j : ℕ) → j < i → z j ≡ digit top' j) → z i ≤ digit top' i
    next_best top' same best z g i li eq = go (ℕ_discrete i m)
      where
        go : Dec (i ≡ m) → z i ≤ digit top' i
        go (yes q) = rw q (best z g (λ j u. eq j (omega arith) ∙ same j u))
        go (no q) = omega (arith, t.best z g i (omega arith) (λ j u. eq j u ∙ same j (omega arith)), same i (omega arith))

    next_same : ((z : ℕ → ℕ) → Fits n K a b h f z → ((j : ℕ) → j < m → z j ≡ digit top j) → z m ≤ digit top m)
        → Taken n K (m + 1) a b h f top left
    next_same best = record {
      sets = t.sets;
      fits = t.fits;
      rest = λ i u. t.rest i (omega arith);
      best = next_best top (λ j u. refl) best;
    }

    -- a whole row
    pub taken_whole : f m ≡ 0 → Taken n K (m + 1) a b h f top left
    taken_whole e =
        next_same (λ z g eq.
        let r = rounded_is (f m) h P.some (z m) (g.rows m l) in
        let u : z m < 1 = lt_of_mul-lt-mul_right h (omega (arith, r.1)) in
        omega arith)

    -- a row with a full set
    pub taken_full : (to : ℕ) → to ≡ suc (b m) → Open left (a m) to false → Taken n K (m + 1) a b h f top left
    taken_full to te o = next_same (λ z g eq. go z g eq (dec_le (z m) (digit top m)))
      where
        w : (k : ℕ) × (a m ≤ k) × (k < to) × (left k ≡ 0)
        w = o.stays refl

        go : (z : ℕ → ℕ) → Fits n K a b h f z → ((j : ℕ) → j < m → z j ≡ digit top j) → Dec (z m ≤ digit top m) → z m ≤ digit top m
        go z g eq (yes q) = q
        go z g eq (no q) =
            let k = w.0 in
            let k_k : k < K = omega (arith, S.row m l, w.2) in
            let D = in_set a b k in
            let c = covers_in (a m) (b m) k w.1 (omega (arith, w.2)) in
            let more : sum_in n D (digit top) + 1 ≤ sum_in n D z =
            sum_one n (λ i. only (D i) (digit top i)) (λ i. only (D i) (z i)) m 1 l
            (λ j u ne. only_le (D j) (D j) (digit top j) (z j) (λ d. d) (λ d. at_least j ne (dec_lt j m)))
            (omega (arith, only_true (D m) (digit top m) c, only_true (D m) (z m) c)) in
            absurd (omega (arith, mul-le-mul_right h more, g.sets k k_k, t.sets k k_k, w.3))
          where
            at_least : (j : ℕ) → ¬ (j ≡ m) → Dec (j < m) → digit top j ≤ z j
            at_least j ne (yes u) = omega (arith, eq j u)
            at_least j ne (no u) = omega (arith, digit_off top j (t.rest j (omega arith)))

    -- a row that is rounded up
    pub taken_up : (top' to : ℕ) (left' : ℕ → ℕ) → to ≡ suc (b m) → 0 < f m → Open left (a m) to true
        → ((e : ℕ) → bit top' e ≡ (bit top e || eqb e m)) → Lowered left left' (a m) to h → Taken n K (m + 1) a b h f top' left'
    taken_up top' to left' te some o one d = record {
      sets = λ k g. (set k g (dec_lt k (a m)) (dec_lt (b m) k)).0;
      fits = record { rows = λ i g. row i g (ℕ_discrete i m); sets = λ k g. (set k g (dec_lt k (a m)) (dec_lt (b m) k)).1 };
      rest = λ i u. one i ∙ or_same (bit top i) (eqb i m) (ne_eqb i m (omega arith)) ∙ t.rest i (omega arith);
      best = next_best top' (λ j u. p.1 j (omega arith)) (λ z g eq.
          let r = rounded_is (f m) h P.some (z m) (g.rows m l) in
          let u : z m < 2 = lt_of_mul-lt-mul_right h (omega (arith, r.1, P.row m l)) in
          omega (arith, p.0));
    }
      where
        p : Put (digit top) m 1 (digit top')
        p = (
          digit_on top' m (one m ∙ or_right (bit top m) (eqb m m) (eq-eqb m m refl)),
          λ e ne. ap (λ (c : Bool). only c 1) (one e ∙ or_same (bit top e) (eqb e m) (ne_eqb e m ne)),
        )

        row : (i : ℕ) → i < n → Dec (i ≡ m) → Rounded (digit top' i) (f i) h
        row i g (yes q) = rw (q, p.0) (rounded_of (f m) h P.some 1 (omega (arith, P.row m l)) (omega arith))
        row i g (no q) = rw (p.1 i q) (t.fits.rows i g)

        -- the set's sum, by whether it has the row
        sum_is : (k : ℕ) → sum_in n (in_set a b k) (digit top') + only (in_set a b k m) (digit top m)
            ≡ sum_in n (in_set a b k) (digit top) + only (in_set a b k m) 1
        sum_is k =
            let D = in_set a b k in
            sum_but (λ u v. u ≡ v) eq_additive n (λ e. only (D e) (digit top' e)) (λ e. only (D e) (digit top e)) m l
            (λ e g ne. ap (only (D e)) (p.1 e ne))
            ∙ ap (λ (u : ℕ). sum_in n D (digit top) + only (D m) u) p.0

        set : (k : ℕ) → k < K → Dec (k < a m) → Dec (b m < k)
            → (left' k ≡ sum_in n (in_set a b k) f - sum_in n (in_set a b k) (digit top') * h)
            × (sum_in n (in_set a b k) (digit top') * h < sum_in n (in_set a b k) f + h)
        set k g (yes q) w =
            let c = covers_before (a m) (b m) k q in
            let s : sum_in n (in_set a b k) (digit top') ≡ sum_in n (in_set a b k) (digit top) =
            omega (arith, sum_is k, only_false _ (digit top m) c, only_false _ 1 c) in
            rw s (omega (arith, d.below k q, t.sets k g), t.fits.sets k g)
        set k g (no q) (yes w) =
            let c = covers_after (a m) (b m) k w in
            let s : sum_in n (in_set a b k) (digit top') ≡ sum_in n (in_set a b k) (digit top) =
            omega (arith, sum_is k, only_false _ (digit top m) c, only_false _ 1 c) in
            rw s (omega (arith, d.beyond k (omega arith), t.sets k g), t.fits.sets k g)
        set k g (no q) (no w) =
            let c = covers_in (a m) (b m) k (omega arith) (omega arith) in
            let s : sum_in n (in_set a b k) (digit top') ≡ sum_in n (in_set a b k) (digit top) + 1 =
            omega (arith, sum_is k, only_true _ (digit top m) c, only_true _ 1 c, off) in
            let room = o.goes refl k (omega arith) (omega arith) in
            rw s (omega (arith, d.inside k (omega arith) (omega arith), t.sets k g), omega (arith, room, t.sets k g))

  -- ---- whole rows, up to one

  pub taken_wholes : (m d top : ℕ) (left : ℕ → ℕ) → m + d ≤ n → ((i : ℕ) → m ≤ i → i < m + d → f i ≡ 0) → Taken n K m a b h f top left
      → Taken n K (m + d) a b h f top left
  taken_wholes m zero top left l z t = let e : m + 0 ≡ m = omega arith in rw e t
  taken_wholes m (suc d) top left l z t =
      let e : m + suc d ≡ m + d + 1 = omega arith in
      rw e (taken_whole (m + d) top left (omega arith) (taken_wholes m d top left (omega arith) (λ i p q. z i p (omega arith)) t)
      (z (m + d) (omega arith) (omega arith)))

  -- ---- the rows in a word, those below m done

  module _ (w : ℕ) (only-rows : Uneven n f w) where
    pub record Tried (done top : ℕ) (left : ℕ → ℕ) : Type 0 where
      pub m : ℕ
      pub few : m ≤ n
      pub rows : (i : ℕ) → bit done i ≡ (bit w i && ltb i m)
      pub taken : Taken n K m a b h f top left

    pub tried_start : (left : ℕ → ℕ) → Summed n K a b f left → Tried 0 0 left
    tried_start left s = record {
      m = 0;
      few = omega arith;
      rows = λ i. bit_zero i ∙ sym (rw (le-ltb i 0 (omega arith)) (and_none (bit w i)));
      taken = taken_start left s;
    }

    module _ {done top : ℕ} {left : ℕ → ℕ} (p : Tried done top left) where
      -- a row that is not in the word is whole
      whole : (i : ℕ) → i < n → bit w i ≡ false → f i ≡ 0
      whole i l e = go (dec_lt 0 (f i))
        where
          go : Dec (0 < f i) → f i ≡ 0
          go (yes d) = absurd (true≢false (sym (only-rows i ∙ rw (lt-ltb i n l, lt-ltb 0 (f i) d) refl) ∙ e))
          go (no d) = omega arith

      past : (i : ℕ) → p.m ≤ i → bit done i ≡ false
      past i l = p.rows i ∙ rw (le-ltb i p.m l) (and_none (bit w i))

      -- the first row that is not done: those between are whole
      module _ (i : ℕ) (ne : bit w i ≢ bit done i) (first : (j : ℕ) → j < i → bit w j ≡ bit done j) where
        here : bit w i ≡ true
        here = (in_first (bit w i) (bit done i) ne (λ e. (and_both (bit w i) (ltb i p.m) (sym (p.rows i) ∙ e)).0)).0

        pub tried_row : (i < n) × (0 < f i)
        tried_row =
            let t = and_both (ltb i n) (ltb 0 (f i)) (sym (only-rows i) ∙ here) in
            (ltb-true i n t.0, ltb-true 0 (f i) t.1)

        pub tried_new : bit done i ≡ false
        tried_new = (in_first (bit w i) (bit done i) ne (λ e. (and_both (bit w i) (ltb i p.m) (sym (p.rows i) ∙ e)).0)).1

        above : p.m ≤ i
        above = go (dec_lt i p.m)
          where
            go : Dec (i < p.m) → p.m ≤ i
            go (yes l) = absurd (true≢false (sym (p.rows i ∙ rw (here, lt-ltb i p.m l) refl) ∙ tried_new))
            go (no l) = omega arith

        pub tried_to : Taken n K i a b h f top left
        tried_to =
            let e : p.m + (i - p.m) ≡ i = omega (arith, above) in
            rw e at (taken_wholes p.m (i - p.m) top left (omega (arith, above, tried_row.0))
            (λ j u v. whole j (omega (arith, above, tried_row.0)) (first j (omega (arith, above)) ∙ past j u)) p.taken)

        pub tried_next : (done' top' : ℕ) (left' : ℕ → ℕ) → ((j : ℕ) → bit done' j ≡ (bit done j || eqb j i))
            → Taken n K (i + 1) a b h f top' left' → Tried done' top' left'
        tried_next done' top' left' one t = record {
          m = i + 1;
          few = omega (arith, tried_row.0);
          rows = λ j. one j ∙ row j (ℕ_discrete j i) (dec_lt j i);
          taken = t;
        }
          where
            row : (j : ℕ) → Dec (j ≡ i) → Dec (j < i) → (bit done j || eqb j i) ≡ (bit w j && ltb j (i + 1))
            row j (yes q) d =
                rw (q) (or_right (bit done i) (eqb i i) (eq-eqb i i refl) ∙ sym (rw (here, lt-ltb i (i + 1) (omega arith)) refl))
            row j (no q) (yes d) =
                or_same (bit done j) (eqb j i) (ne_eqb j i q) ∙ sym (first j d)
                ∙ sym (rw (lt-ltb j (i + 1) (omega arith)) (and_all (bit w j)))
            row j (no q) (no d) =
                or_same (bit done j) (eqb j i) (ne_eqb j i q) ∙ past j (omega (arith, above))
                ∙ sym (rw (le-ltb j (i + 1) (omega arith)) (and_none (bit w j)))

      -- all of the word is done
      pub tried_end : done ≡ w → Taken n K n a b h f top left
      tried_end e =
          let q : p.m + (n - p.m) ≡ n = omega (arith, p.few) in
          rw q at (taken_wholes p.m (n - p.m) top left (omega (arith, p.few))
          (λ j u v. whole j (omega (arith, p.few)) (ap (λ (x : ℕ). bit x j) (sym e) ∙ past j u)) p.taken)

  -- ---- after the last row

  module _ (top : ℕ) (left : ℕ → ℕ) (t : Taken n K n a b h f top left) where
    -- loads that qualify fit
    qualified_fits : (z : ℕ → ℕ) → Qualified n K a b h f none z → Fits n K a b h f z
    qualified_fits z q = record {
      rows = λ i l. rw (zero_plus (z i)) at (q.rows i l);
      sets = λ k l.
          let D = in_set a b k in
          (rounded_is (sum_in n D f) h P.some (sum_in n D z) (rw (sum_none n D, zero_plus (sum_in n D z)) at (q.sets k l))).1;
    }

    pub taken_greatest : ((k : ℕ) → k < K → left k < h) → Greatest n (Qualified n K a b h f none) (digit top)
    taken_greatest small = record {
      qualify = record {
        rows = λ i l. rw (zero_plus (digit top i)) (t.fits.rows i l);
        sets = λ k l.
            let D = in_set a b k in
            rw (sum_none n D, zero_plus (sum_in n D (digit top)))
            (rounded_of (sum_in n D f) h P.some (sum_in n D (digit top)) (omega (arith, t.sets k l, small k l)) (t.fits.sets k l));
      };
      most = λ z q i l. t.best z (qualified_fits z q) i l;
    }

    -- no row and no set is above its part rounded up
    pub taken_upper : (e : ℕ) → e < n + K → carried n a b (digit top) e ≤ (line n K a b h f).high e
    taken_upper =
        both (λ e. carried n a b (digit top) e ≤ (line n K a b h f).high e) n K
        (λ i l. rw (carried_row n K a b h f S P (digit top) i l, carried_row n K a b h f S P f i l)
        (rounded_between (f i) h P.some (digit top i) (t.fits.rows i l)).1)
        (λ k l.
        let F : ℕ = sum_in n (in_set a b k) f in
        let C : ℕ = sum_in n (in_set a b k) (digit top) in
        let u : C < up F h + 1 = lt_of_mul-lt-mul_right h (omega (arith, t.fits.sets k l, up_over F h P.some)) in
        rw (carried_set n K a b h f S P (digit top) k, carried_set n K a b h f S P f k) (omega arith))
