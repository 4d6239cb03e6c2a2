-- One search: the words that the code hands over show the network, a set that is too low has a way, and what toggling it leaves.
use mathlib.Core.Path.{◌≡◌, refl, sym, ap, ◌∙◌}
use mathlib.Core.Bool.{Bool, true, false, ◌&&◌, cond, not, true≢false, false≢true}
use mathlib.Core.Logic.{◌≢◌}
use Prim.Native.Nat.{ℕ, zero, suc, ◌+◌, ◌-◌, ◌*◌, ◌%◌, ◌^◌, ◌≤◌, ◌<◌}
use native.Mathlib.Decide.{dec_le, ℕ_discrete}
use native.Mathlib.Omega.{arith}
use lib.Bits.{bit_and, bit_xor, xor_zero_r}
use lib.Dec.{eqb, ltb}
use borrow.Author.Tests.{eq-eqb, ne_eqb, lt-ltb, le-ltb, ltb-true, ltb-false, leb-true, leb-false}
use Rattle.numbers.specs.Finite.{sum, sum_in}
use Rattle.numbers.specs.Rounding.{down}
use Rattle.numbers.specs.Word.{bit}
use Rattle.numbers.proofs.Finite.{sum_one}
use Rattle.numbers.proofs.Rounding.{down_up}
use Rattle.numbers.proofs.Word.{bit_and_lem}
use Rattle.loads.specs.declared.flow.Arcs.{Arcs}
use Rattle.loads.specs.Network.{Net, Circulation, Within, Put}
use Rattle.loads.specs.Raised.{Raised}
use Rattle.loads.specs.Way.{Way, Toggled, With, Narrow, Takes, Shown, Sought}
use Rattle.loads.proofs.Network.{put, put_is}
use Rattle.loads.proofs.Raising.{best_full}
use Rattle.loads.proofs.Words.{and_both, bit_xor_lem, bit_first}
use Rattle.loads.proofs.Ways.{way_kept, way_within, way_circ, way_pushed, shut_best, shut_enough, toggled_next}
use Rattle.loads.specs.Loads.{in_set, digit, Spans, Parts}
use Rattle.loads.specs.Line.{carried, line}
use Rattle.loads.specs.State.{Compared}
use Rattle.loads.proofs.Settling.{digit_on, digit_off, digit_le, digit_xor, lines_of}
use Rattle.loads.proofs.Settling.{carried_row, carried_set, carried_circ, carried_is}
use Rattle.loads.proofs.Settling.{parts_within, row_high, row_whole, row_open, open_high, low_more}
use Rattle.loads.proofs.Settling.{takes_up, takes_down, takes_more, takes_less}

-- ---- tests joined by and

second_false : (p q : Bool) → p ≡ true → (p && q) ≡ false → q ≡ false
second_false true q e f = f
second_false false q e f = absurd (false≢true e)

-- ---- sets compared

module _ {K h : ℕ} {C F : ℕ → ℕ} {more less low : ℕ} (S : Compared K h C F more less low) where
  more_yes : (k : ℕ) → bit more (suc k) ≡ true → (k < K) × (h * C k < F k)
  more_yes k e = let w = and_both _ _ (sym (S.more_is k) ∙ e) in (ltb-true k K w.0, ltb-true _ _ w.1)

  more_no : (k : ℕ) → k < K → bit more (suc k) ≡ false → F k ≤ h * C k
  more_no k l e = ltb-false _ _ (second_false _ _ (lt-ltb k K l) (sym (S.more_is k) ∙ e))

  less_yes : (k : ℕ) → bit less k ≡ true → (k < K) × (F k < h * C k)
  less_yes k e = let w = and_both _ _ (sym (S.less_is k) ∙ e) in (ltb-true k K w.0, ltb-true _ _ w.1)

  less_no : (k : ℕ) → k < K → bit less k ≡ false → h * C k ≤ F k
  less_no k l e = ltb-false _ _ (second_false _ _ (lt-ltb k K l) (sym (S.less_is k) ∙ e))

  pub low_yes : (k : ℕ) → bit low k ≡ true → (k < K) × (h * C k + h ≤ F k)
  low_yes k e = let w = and_both _ _ (sym (S.low_is k) ∙ e) in (ltb-true k K w.0, leb-true _ _ w.1)

  pub low_no : (k : ℕ) → k < K → bit low k ≡ false → ¬ (h * C k + h ≤ F k)
  low_no k l e q =
      let z : F k < h * C k + h = leb-false _ _ (second_false _ _ (lt-ltb k K l) (sym (S.low_is k) ∙ e)) in
      omega arith

  more_node : (v : ℕ) → bit more v ≡ true → (0 < v) × (v ≤ K)
  more_node v e = go v e
    where
      go : (v : ℕ) → bit more v ≡ true → (0 < v) × (v ≤ K)
      go zero e = absurd (true≢false (sym e ∙ S.first))
      go (suc k) e = (omega arith, omega (arith, (more_yes k e).0))

  pub narrow_of : (up down : ℕ) → Narrow K (record { up = up; down = down; more = more; less = less })
  narrow_of up down = record { more = more_node; less = λ v e. (less_yes v e).0 }

-- ---- the network, shown by words

module _ (n K h : ℕ) (a b hd f : ℕ → ℕ) (heads : (i : ℕ) → i < n → hd i ≡ suc (b i)) (S : Spans n K a b) (P : Parts n h f) where
  shown_of : (may : ℕ → Bool) (top : ℕ) (A : Arcs)
      → ((i : ℕ) → i < n → Takes may (carried n a b (digit top)) (line n K a b h f).high i (bit A.up i))
      → ((i : ℕ) → i < n → Takes may (line n K a b h f).low (carried n a b (digit top)) i (bit A.down i))
      → ((k : ℕ) → k < K → Takes may (carried n a b (digit top)) (line n K a b h f).high (n + k) (bit A.more (suc k)))
      → ((k : ℕ) → k < K → Takes may (line n K a b h f).low (carried n a b (digit top)) (n + k) (bit A.less k))
      → Shown n K (line n K a b h f) may (carried n a b (digit top)) a hd A
  shown_of may top A up down more less =
      let L = lines_of n K a b h f S P in record {
        arcs = refl;
        rows = λ i l. (L.row_tail i l, L.row_head i l ∙ sym (heads i l));
        sets = λ k l. (L.set_tail k l, L.set_head k l);
        up = up;
        down = down;
        more = more;
        less = less;
        digits = λ i l. (omega (arith, carried_row n K a b h f S P (digit top) i l, digit_le top i), row_high n K a b h f S P i l);
      }

  module _ (parted top more less low : ℕ) (split : (i : ℕ) → i < n → bit parted i ≡ ltb 0 (f i))
      (upper : (e : ℕ) → e < n + K → carried n a b (digit top) e ≤ (line n K a b h f).high e)
      (cmp : Compared K h (λ k. sum_in n (in_set a b k) (digit top)) (λ k. sum_in n (in_set a b k) f) more less low) where
    -- a row that is rounded up has a part
    top_parted : (i : ℕ) → i < n → bit top i ≡ true → bit parted i ≡ true
    top_parted i l e =
        split i l
        ∙ lt-ltb 0 (f i)
        (row_open n K a b h f S P i l (omega (arith, upper i (omega arith), carried_row n K a b h f S P (digit top) i l, digit_on top i e)))

    parted_some : (i : ℕ) → i < n → bit parted i ≡ true → 0 < f i
    parted_some i l e = ltb-true 0 (f i) (sym (split i l) ∙ e)

    parted_none : (i : ℕ) → i < n → bit parted i ≡ false → f i ≡ 0
    parted_none i l e = let z = ltb-false 0 (f i) (sym (split i l) ∙ e) in omega arith

    -- ---- set q is too low

    module _ (q : ℕ) (ql : q < 63) (lq : bit low q ≡ true) where
      abbrev pub others : ℕ → Bool
      others e = not (eqb e (n + q))

      abbrev pub mending : Arcs
      mending = record { up = bit_xor parted top; down = top; more = bit_xor more (1 * 2 ^ (q + 1) % 2 ^ 64); less = less }

      q_k : q < K
      q_k = (low_yes cmp q lq).0

      q_low : h * sum_in n (in_set a b q) (digit top) + h ≤ sum_in n (in_set a b q) f
      q_low = (low_yes cmp q lq).1

      more_bit : (v : ℕ) → bit mending.more v ≡ cond (eqb v (q + 1)) (not (bit more v)) (bit more v)
      more_bit v =
          bit_xor_lem more (1 * 2 ^ (q + 1) % 2 ^ 64) v
          ∙ ap (λ (z : Bool). cond z (not (bit more v)) (bit more v)) (bit_first (q + 1) v (omega arith))

      more_other : (v : ℕ) → v ≢ q + 1 → bit mending.more v ≡ bit more v
      more_other v ne = more_bit v ∙ rw (ne_eqb v (q + 1) ne)

      -- the set itself can take one more, so its digit is cleared
      more_own : bit mending.more (q + 1) ≡ false
      more_own = more_bit (q + 1) ∙ rw (eq-eqb (q + 1) (q + 1) refl) (ap not on)
        where
          on : bit more (q + 1) ≡ true
          on = go (bit more (q + 1)) refl
            where
              is : suc q ≡ q + 1
              is = omega arith

              go : (z : Bool) → bit more (q + 1) ≡ z → z ≡ true
              go true e = refl
              go false e = absurd (let w = more_no cmp q q_k (ap (bit more) is ∙ e) in omega (arith, q_low, P.some))

      pub mend_narrow : Narrow K mending
      mend_narrow = record { more = λ v e. go v e (ℕ_discrete v (q + 1)); less = λ v e. (less_yes cmp v e).0 }
        where
          go : (v : ℕ) → bit mending.more v ≡ true → Dec (v ≡ q + 1) → (0 < v) × (v ≤ K)
          go v e (yes z) = absurd (true≢false (sym e ∙ ap (bit mending.more) z ∙ more_own))
          go v e (no z) = more_node cmp v (sym (more_other v z) ∙ e)

      other_on : (e : ℕ) → e ≢ n + q → others e ≡ true
      other_on e ne = ap not (ne_eqb e (n + q) ne)

      own_off : others (n + q) ≡ false
      own_off = ap not (eq-eqb (n + q) (n + q) refl)

      up_bit : (i : ℕ) → bit mending.up i ≡ cond (bit top i) (not (bit parted i)) (bit parted i)
      up_bit i = bit_xor_lem parted top i

      pub mend_shown : Shown n K (line n K a b h f) others (carried n a b (digit top)) a hd mending
      mend_shown =
          shown_of others top mending
          (λ i l. takes_up n K a b h f S P others top i (bit mending.up i) l
          (λ e. let r = up_yes i l e (bit top i) refl in (other_on i (λ z. omega arith), r.0, parted_some i l r.1))
          (λ e m t. parted_none i l (sym (rw t at (up_bit i)) ∙ e)))
          (λ i l. takes_down n K a b h f S P others top i (bit top i) l (λ e. (other_on i (λ z. omega arith), e)) (λ e m. e))
          (λ k l. takes_more n K a b h f S P others top k (bit mending.more (suc k)) (λ e. more_can k l e (ℕ_discrete k q))
          (λ e m. more_cannot k l e m (ℕ_discrete k q)))
          (λ k l. takes_less n K a b h f S P others top k (bit less k) (λ e. (less_on k e (ℕ_discrete k q), (less_yes cmp k e).1))
          (λ e m. less_no cmp k l e))
        where
          up_yes : (i : ℕ) → i < n → bit mending.up i ≡ true → (t : Bool) → bit top i ≡ t → (bit top i ≡ false) × (bit parted i ≡ true)
          up_yes i l e true d =
              absurd (true≢false (sym e ∙ rw (d, top_parted i l d) at (up_bit i)))
          up_yes i l e false d = (d, sym (rw d at (up_bit i)) ∙ e)

          more_can : (k : ℕ) → k < K → bit mending.more (suc k) ≡ true → Dec (k ≡ q)
              → (others (n + k) ≡ true) × (h * sum_in n (in_set a b k) (digit top) < sum_in n (in_set a b k) f)
          more_can k l e (yes z) =
              let w : suc k ≡ q + 1 = omega arith in
              absurd (true≢false (sym e ∙ ap (bit mending.more) w ∙ more_own))
          more_can k l e (no z) =
              (other_on (n + k) (λ w. z (omega arith)), (more_yes cmp k (sym (more_other (suc k) (λ w. z (omega arith))) ∙ e)).1)

          more_cannot : (k : ℕ) → k < K → bit mending.more (suc k) ≡ false → others (n + k) ≡ true → Dec (k ≡ q)
              → sum_in n (in_set a b k) f ≤ h * sum_in n (in_set a b k) (digit top)
          more_cannot k l e m (yes z) = absurd (true≢false (sym m ∙ ap (λ (c : ℕ). others (n + c)) z ∙ own_off))
          more_cannot k l e m (no z) = more_no cmp k l (sym (more_other (suc k) (λ w. z (omega arith))) ∙ e)

          less_on : (k : ℕ) → bit less k ≡ true → Dec (k ≡ q) → others (n + k) ≡ true
          less_on k e (yes z) = absurd (let w = rw z at (less_yes cmp k e).1 in omega (arith, q_low))
          less_on k e (no z) = other_on (n + k) (λ w. z (omega arith))

      -- a way there must be: the parts are within the bounds
      pub mend_found : (w : ℕ) (r : Bool) → Sought n (line n K a b h f) others (carried n a b (digit top)) q (q + 1) w r
          → Sought n (line n K a b h f) others (carried n a b (digit top)) q (q + 1) w true
      mend_found w true s = s
      mend_found w false s =
          let z = s.none refl in
          let L = lines_of n K a b h f S P in
          let hq : (line n K a b h f).head (n + q) ≡ q = L.set_head q q_k in
          let tq : (line n K a b h f).tail (n + q) ≡ q + 1 = L.set_tail q q_k ∙ omega arith in
          let y = shut_enough (line n K a b h f) others z.0 (carried n a b (digit top)) (n + q) (omega (arith, q_k))
          (carried_circ n K a b h f S P (digit top)) z.3 (ap z.0 hq ∙ z.1) (ap z.0 tq ∙ z.2) h (carried n a b f)
          (carried_circ n K a b h f S P f) (parts_within n K a b h f S P) other_on in
          absurd (omega (
            arith,
            y,
            carried_set n K a b h f S P f q,
            ap (λ (u : ℕ). u * h) (carried_set n K a b h f S P (digit top) q),
            q_low,
            P.some,
          ))

      module _ (w : ℕ) (s : Sought n (line n K a b h f) others (carried n a b (digit top)) q (q + 1) w true) where
        new : ℕ
        new = bit_xor top w

        abbrev G : Net
        G = line n K a b h f

        abbrev X : ℕ → ℕ
        X = carried n a b (digit top)

        was : ℕ → ℕ
        was = (s.found refl).1

        way : Way (line n K a b h f) others (s.found refl).0 (carried n a b (digit top)) was q (q + 1)
        unfolding was
        way = (s.found refl).2

        tog : Toggled n w (carried n a b (digit top)) was
        unfolding was
        tog = (s.found refl).3

        one_more : ℕ → ℕ
        one_more = put was (n + q) (was (n + q) + 1)

        one_put : Put was (n + q) (was (n + q) + 1) one_more
        unfolding one_more
        one_put = put_is was (n + q) (was (n + q) + 1)

        inside : n + q < n + K
        inside = omega (arith, q_k)

        own : was (n + q) ≡ X (n + q)
        own = way_kept G others X q (s.found refl).0 was (q + 1) (n + q) way inside own_off

        ends : ((line n K a b h f).head (n + q) ≡ q) × ((line n K a b h f).tail (n + q) ≡ q + 1)
        ends = let L = lines_of n K a b h f S P in (L.set_head q q_k, L.set_tail q q_k ∙ omega arith)

        there : Way (line n K a b h f) others (s.found refl).0 (carried n a b (digit top)) was ((line n K a b h f).head (n + q))
            ((line n K a b h f).tail (n + q))
        there = rw (ends.0, ends.1) way

        more_circ : Circulation (line n K a b h f) one_more
        more_circ = way_circ G others (s.found refl).0 X was one_more (n + q) inside own_off there one_put

        mend_carried : (e : ℕ) → e < n + K → carried n a b (digit (bit_xor top w)) e ≡ one_more e
        mend_carried =
            carried_is n K a b h f S P one_more (digit (bit_xor top w)) more_circ
            (λ i l. one_put.1 i (omega arith)
            ∙ digit_xor n top w X was (λ j m. carried_row n K a b h f S P (digit top) j m) tog i l)

        -- one more than before, and that is still within the bound
        own_more : (one_more (n + q) ≡ X (n + q) + 1) × (X (n + q) + 1 ≤ G.low (n + q))
        own_more = (
          one_put.0 ∙ ap (λ (z : ℕ). z + 1) own,
          omega (
            arith,
            low_more n K a b h f S P q (sum_in n (in_set a b q) (digit top) + 1) (omega (arith, q_low)),
            carried_set n K a b h f S P (digit top) q,
          ),
        )

        others_kept : (e : ℕ) → e < n + K → e ≢ n + q
            → (one_more e ≤ G.high e) × (G.low e ≤ X e → G.low e ≤ one_more e) × (X e < G.low e → X e ≤ one_more e)
        others_kept e l ne =
            let z = way_within G others X q (s.found refl).0 was (q + 1) e way l in
            rw (one_put.1 e ne) (z.0 (upper e l), z.1, z.2)

        pub mend_upper : (e : ℕ) → e < n + K → carried n a b (digit (bit_xor top w)) e ≤ (line n K a b h f).high e
        mend_upper e l = rw (mend_carried e l) (go (ℕ_discrete e (n + q)))
          where
            go : Dec (e ≡ n + q) → one_more e ≤ (line n K a b h f).high e
            go (yes z) = rw z (omega (arith, own_more, down_up (carried n a b f (n + q)) h P.some))
            go (no z) = (others_kept e l z).0

        -- the need falls
        pub mend_less : sum K (λ k. (line n K a b h f).low (n + k) - carried n a b (digit (bit_xor top w)) (n + k))
            < sum K (λ k. (line n K a b h f).low (n + k) - carried n a b (digit top) (n + k))
        mend_less =
            let t = sum_one K (λ k. G.low (n + k) - carried n a b (digit (bit_xor top w)) (n + k)) (λ k. G.low (n + k) - X (n + k)) q 1 q_k
            (λ k l ne. let e : n + k < n + K = omega arith in
            let o = others_kept (n + k) e (λ z. ne (omega arith)) in
            let m = mend_carried (n + k) e in
            go (G.low (n + k)) (X (n + k)) (one_more (n + k)) (carried n a b (digit (bit_xor top w)) (n + k)) m o.1 o.2
            (dec_le (G.low (n + k)) (X (n + k))))
            (omega (arith, own_more, mend_carried (n + q) inside)) in
            omega arith
          where
            go : (lo x y z : ℕ) → z ≡ y → (lo ≤ x → lo ≤ y) → (x < lo → x ≤ y) → Dec (lo ≤ x) → lo - z ≤ lo - x
            go lo x y z e p r (yes l) = let u = p l in omega arith
            go lo x y z e p r (no l) = let u = r (omega arith) in omega arith

    -- ---- row i is the next, by the rows after it

    module _ (within : Within (line n K a b h f) (carried n a b (digit top))) (i : ℕ) (il : i < n) where
      -- nothing can be more, where the row is rounded up or whole
      pub turn_still : bit (bit_xor parted top) i ≡ false
          → Raised (line n K a b h f) i (carried n a b (digit top)) (carried n a b (digit (bit_xor top 0)))
      turn_still e =
          rw (xor_zero_r top)
          (record {
            circ = carried_circ n K a b h f S P (digit top);
            within = within;
            kept = λ j l. refl;
            best = best_full (line n K a b h f) i (carried n a b (digit top)) (omega arith) (go (bit top i) refl);
          })
        where
          go : (t : Bool) → bit top i ≡ t → (line n K a b h f).high i ≤ carried n a b (digit top) i
          go true d = omega (arith, row_high n K a b h f S P i il, carried_row n K a b h f S P (digit top) i il, digit_on top i d)
          go false d = omega (arith, row_whole n K a b h f S P i il (parted_none i il (sym (rw d at (bit_xor_lem parted top i)) ∙ e)))

      turn_split : bit (bit_xor parted top) i ≡ true → (bit top i ≡ false) × (bit parted i ≡ true)
      turn_split e = go (bit top i) refl
        where
          go : (t : Bool) → bit top i ≡ t → (bit top i ≡ false) × (bit parted i ≡ true)
          go true d = absurd (true≢false (sym e ∙ rw (d, top_parted i il d) at (bit_xor_lem parted top i)))
          go false d = (d, sym (rw d at (bit_xor_lem parted top i)) ∙ e)

      module _ (later : ℕ) (after : (j : ℕ) → j < n → bit later j ≡ (ltb i j && bit parted j)) where
        abbrev pub turning : Arcs
        turning = record { up = bit_xor later (bit_and later top); down = bit_and later top; more = more; less = less }

        up_is : (j : ℕ) → bit turning.up j ≡ (bit later j && not (bit top j))
        up_is j = bit_xor_lem later (bit_and later top) j ∙ ap (λ (z : Bool). cond z (not (bit later j)) (bit later j)) (bit_and_lem later top j)
            ∙ go (bit later j) (bit top j)
          where
            go : (p q : Bool) → cond (p && q) (not p) p ≡ (p && not q)
            go true true = refl
            go true false = refl
            go false q = refl

        later_yes : (j : ℕ) → j < n → bit later j ≡ true → (ltb i j ≡ true) × (bit parted j ≡ true)
        later_yes j l e = and_both (ltb i j) (bit parted j) (sym (after j l) ∙ e)

        pub turn_shown : Shown n K (line n K a b h f) (ltb i) (carried n a b (digit top)) a hd turning
        turn_shown =
            shown_of (ltb i) top turning
            (λ j l. takes_up n K a b h f S P (ltb i) top j (bit turning.up j) l
            (λ e. let r = and_both _ _ (sym (up_is j) ∙ e) in
            let y = later_yes j l r.0 in
            (y.0, not_on (bit top j) r.1, parted_some j l y.1))
            (λ e m t. parted_none j l (second_false _ _ m (sym (after j l) ∙ up_no j t e))))
            (λ j l. takes_down n K a b h f S P (ltb i) top j (bit turning.down j) l
            (λ e. let r = and_both _ _ (sym (bit_and_lem later top j) ∙ e) in ((later_yes j l r.0).0, r.1))
            (λ e m. down_no j l m e (bit top j) refl))
            (λ k l. takes_more n K a b h f S P (ltb i) top k (bit more (suc k)) (λ e. (lt-ltb i (n + k) (omega arith), (more_yes cmp k e).1))
            (λ e m. more_no cmp k l e))
            (λ k l. takes_less n K a b h f S P (ltb i) top k (bit less k) (λ e. (lt-ltb i (n + k) (omega arith), (less_yes cmp k e).1))
            (λ e m. less_no cmp k l e))
          where
            not_on : (p : Bool) → not p ≡ true → p ≡ false
            not_on true e = absurd (false≢true e)
            not_on false e = refl

            up_no : (j : ℕ) → bit top j ≡ false → bit turning.up j ≡ false → bit later j ≡ false
            up_no j t e = go (bit later j) (sym (rw t at (up_is j)) ∙ e)
              where
                go : (p : Bool) → (p && true) ≡ false → p ≡ false
                go true z = z
                go false z = refl

            down_no : (j : ℕ) → j < n → ltb i j ≡ true → bit turning.down j ≡ false → (t : Bool) → bit top j ≡ t → bit top j ≡ false
            down_no j l m e true d =
                let on : bit later j ≡ true = after j l ∙ rw (m, top_parted j l d) in
                absurd (true≢false (sym (bit_and_lem later top j ∙ rw (on, d)) ∙ e))
            down_no j l m e false d = d

        module _ (w : ℕ) where
          abbrev G' : Net
          G' = line n K a b h f

          abbrev X' : ℕ → ℕ
          X' = carried n a b (digit top)

          lines : ((line n K a b h f).head i ≡ hd i) × ((line n K a b h f).tail i ≡ a i)
          lines = let L = lines_of n K a b h f S P in (L.row_head i il ∙ sym (heads i il), L.row_tail i il)

          pub turn_none : Sought n (line n K a b h f) (ltb i) (carried n a b (digit top)) (hd i) (a i) w false
              → Raised (line n K a b h f) i (carried n a b (digit top)) (carried n a b (digit (bit_xor top 0)))
          turn_none s =
              let z = s.none refl in
              rw (xor_zero_r top)
              (record {
                circ = carried_circ n K a b h f S P (digit top);
                within = within;
                kept = λ j l. refl;
                best =
                    shut_best G' (ltb i) z.0 X' i (omega arith) (carried_circ n K a b h f S P (digit top)) z.3
                    (ap z.0 lines.0 ∙ z.1)
                    (ap z.0 lines.1 ∙ z.2) within (λ j l. lt-ltb i j l);
              })

          pub turn_found : Sought n (line n K a b h f) (ltb i) (carried n a b (digit top)) (hd i) (a i) w true
              → bit (bit_xor parted top) i ≡ true → (w' : ℕ) → With n w i w'
              → Raised (line n K a b h f) i (carried n a b (digit top)) (carried n a b (digit (bit_xor top w')))
          turn_found s e w' j =
              let z = s.found refl in
              let y : ℕ → ℕ = z.1 in
              let li : i < n + K = omega arith in
              let no : ltb i i ≡ false = le-ltb i i (omega arith) in
              let y' : ℕ → ℕ = put y i (y i + 1) in
              let p = put_is y i (y i + 1) in
              let v : Way G' (ltb i) z.0 X' y (G'.head i) (G'.tail i) = rw (lines.0, lines.1) z.2 in
              let own = way_kept G' (ltb i) X' (G'.head i) z.0 y (G'.tail i) i v li no in
              let r = turn_split e in
              let xi : X' i ≡ 0 = carried_row n K a b h f S P (digit top) i il ∙ digit_off top i r.0 in
              let hi : 0 < G'.high i = open_high n K a b h f S P i il (parted_some i il r.1) in
              let d = way_pushed G' (ltb i) z.0 X' y y' i li no v p within (λ c k. le-ltb i c (omega arith)) (omega arith) in
              let t = toggled_next n X' w i w' (y i + 1) y y' z.3 j p (λ k. omega (arith, own, xi)) in
              let q = carried_is n K a b h f S P y' (digit (bit_xor top w')) d.circ
              (λ c l. digit_xor n top w' X' y' (λ c' m. carried_row n K a b h f S P (digit top) c' m) t c l) in
              record {
                circ = carried_circ n K a b h f S P (digit (bit_xor top w'));
                within = λ c l. rw (q c l) (d.within c l);
                kept = λ c l. q c (omega arith) ∙ d.kept c l;
                best = best_full G' i (carried n a b (digit (bit_xor top w'))) li
                    (omega (arith, q i li, d.more, row_high n K a b h f S P i il));
              }
