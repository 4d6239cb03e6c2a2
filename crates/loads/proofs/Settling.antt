-- The network of rows and sets: the parts of slots are a circulation within its bounds, words of rows are amounts in it, and amounts that
-- are settled are the greatest loads.
use mathlib.Core.Path.{◌≡◌, refl, sym, ◌∙◌}
use mathlib.Core.Bool.{Bool, true, false, cond, not}
use Prim.Native.Nat.{ℕ, suc, ◌+◌, ◌*◌, ◌≤◌, ◌<◌}
use native.Mathlib.Decide.{dec_lt}
use native.Mathlib.Nat.{lt_of_mul-lt-mul_right}
use native.Mathlib.Omega.{arith}
use lib.Bits.{bit_xor}
use Rattle.numbers.specs.Finite.{sum_in}
use Rattle.numbers.specs.Rounding.{down}
use Rattle.numbers.specs.Word.{bit}
use Rattle.numbers.proofs.Finite.{sum_in_eq, only_true, only_false}
use Rattle.numbers.proofs.Rounding.{down_under, down_greatest, up_over, up_least, rounded_between, between_rounded}
use Rattle.loads.specs.Network.{Circulation, Within}
use Rattle.loads.specs.Raised.{Settled}
use Rattle.loads.specs.Way.{Toggled, Takes}
use Rattle.loads.proofs.Words.{bit_xor_lem}
use Rattle.rules.specs.Interval.{Greatest}
use Rattle.loads.specs.Loads.{in_set, digit, none, Spans, Parts, Qualified}
use Rattle.loads.specs.Line.{carried, line, Lines}
use Rattle.loads.proofs.Line.{circ_of_sums, sums_of_circ}
use Rattle.loads.proofs.Choice.{join_low, join_high, both, zero_plus, sum_none}

-- ---- digits

pub digit_on : (w i : ℕ) → bit w i ≡ true → digit w i ≡ 1
digit_on w i e = only_true (bit w i) 1 e

pub digit_off : (w i : ℕ) → bit w i ≡ false → digit w i ≡ 0
digit_off w i e = only_false (bit w i) 1 e

pub digit_le : (w i : ℕ) → digit w i ≤ 1
digit_le w i = go (bit w i) refl
  where
    go : (b : Bool) → bit w i ≡ b → digit w i ≤ 1
    go true e = omega (arith, digit_on w i e)
    go false e = omega (arith, digit_off w i e)

-- an exclusive or toggles
pub digit_xor : (n top w : ℕ) (x x' : ℕ → ℕ) → ((i : ℕ) → i < n → x i ≡ digit top i) → Toggled n w x x'
    → (i : ℕ) → i < n → x' i ≡ digit (bit_xor top w) i
digit_xor n top w x x' same t i l = go (bit w i) refl (bit top i) refl
  where
    now : (p q : Bool) → bit w i ≡ p → bit top i ≡ q → bit (bit_xor top w) i ≡ cond p (not q) q
    now p q e d = rw (bit_xor_lem top w i, e, d)

    go : (p : Bool) → bit w i ≡ p → (q : Bool) → bit top i ≡ q → x' i ≡ digit (bit_xor top w) i
    go true e true d = omega (arith, t.inside i l e, same i l, digit_on top i d, digit_off (bit_xor top w) i (now true true e d))
    go true e false d = omega (arith, t.inside i l e, same i l, digit_off top i d, digit_on (bit_xor top w) i (now true false e d))
    go false e true d = omega (arith, t.outside i l e, same i l, digit_on top i d, digit_on (bit_xor top w) i (now false true e d))
    go false e false d = omega (arith, t.outside i l e, same i l, digit_off top i d, digit_off (bit_xor top w) i (now false false e d))

-- ---- the network

module _ (n K : ℕ) (a b : ℕ → ℕ) (h : ℕ) (f : ℕ → ℕ) (S : Spans n K a b) (P : Parts n h f) where
  pub lines_of : Lines n K a b (line n K a b h f).tail (line n K a b h f).head
  lines_of = record {
    row_tail = λ i l. join_low n a suc i l;
    row_head = λ i l. join_low n (λ i. suc (b i)) (λ k. k) i l;
    set_tail = λ k l. join_high n a suc k;
    set_head = λ k l. join_high n (λ i. suc (b i)) (λ k. k) k;
  }

  pub carried_row : (g : ℕ → ℕ) (i : ℕ) → i < n → carried n a b g i ≡ g i
  carried_row g i l = join_low n g (λ k. sum_in n (in_set a b k) g) i l

  pub carried_set : (g : ℕ → ℕ) (k : ℕ) → carried n a b g (n + k) ≡ sum_in n (in_set a b k) g
  carried_set g k = join_high n g (λ k. sum_in n (in_set a b k) g) k

  pub carried_circ : (g : ℕ → ℕ) → Circulation (line n K a b h f) (carried n a b g)
  carried_circ g =
      circ_of_sums n K a b (line n K a b h f) (carried n a b g) refl lines_of S.row
      (λ k l. carried_set g k ∙ sum_in_eq n (in_set a b k) (in_set a b k) g (carried n a b g) (λ i m. refl) (λ i m t. sym (carried_row g i m)))

  -- a circulation carries the sums of its rows
  pub carried_is : (x g : ℕ → ℕ) → Circulation (line n K a b h f) x → ((i : ℕ) → i < n → x i ≡ g i)
      → (e : ℕ) → e < n + K → carried n a b g e ≡ x e
  carried_is x g c same =
      both (λ e. carried n a b g e ≡ x e) n K (λ i l. carried_row g i l ∙ sym (same i l))
      (λ k l. carried_set g k ∙ sum_in_eq n (in_set a b k) (in_set a b k) g x (λ i m. refl) (λ i m t. sym (same i m))
      ∙ sym (sums_of_circ n K a b (line n K a b h f) x refl lines_of S.row c k l))

  -- the parts themselves are within the bounds
  pub parts_within : (e : ℕ) → e < n + K
      → ((line n K a b h f).low e * h ≤ carried n a b f e) × (carried n a b f e ≤ (line n K a b h f).high e * h)
  parts_within e l = (down_under (carried n a b f e) h P.some, up_over (carried n a b f e) h P.some)

  -- ---- bounds of a row and of a set

  pub row_low : (i : ℕ) → i < n → (line n K a b h f).low i ≡ 0
  row_low i l =
      let r = carried_row f i l in
      let u : down (carried n a b f i) h < 1 = lt_of_mul-lt-mul_right h
      (omega (arith, down_under (carried n a b f i) h P.some, P.row i l)) in
      omega arith

  pub row_high : (i : ℕ) → i < n → (line n K a b h f).high i ≤ 1
  row_high i l = up_least (carried n a b f i) h P.some 1 (omega (arith, carried_row f i l, P.row i l))

  pub row_whole : (i : ℕ) → i < n → f i ≡ 0 → (line n K a b h f).high i ≤ 0
  row_whole i l e = up_least (carried n a b f i) h P.some 0 (omega (arith, carried_row f i l))

  pub row_open : (i : ℕ) → i < n → 0 < (line n K a b h f).high i → 0 < f i
  row_open i l p = go (dec_lt 0 (f i))
    where
      go : Dec (0 < f i) → 0 < f i
      go (yes q) = q
      go (no q) = absurd (omega (arith, row_whole i l (omega arith)))

  pub open_high : (i : ℕ) → i < n → 0 < f i → 0 < (line n K a b h f).high i
  open_high i l p =
      lt_of_mul-lt-mul_right h (omega (arith, up_over (carried n a b f i) h P.some, carried_row f i l))

  module _ (k : ℕ) (C : ℕ) where
    set_part : carried n a b f (n + k) ≡ sum_in n (in_set a b k) f
    set_part = carried_set f k

    pub more_high : h * C < sum_in n (in_set a b k) f → C < (line n K a b h f).high (n + k)
    more_high l = lt_of_mul-lt-mul_right h (omega (arith, up_over (carried n a b f (n + k)) h P.some, set_part))

    pub high_less : sum_in n (in_set a b k) f ≤ h * C → (line n K a b h f).high (n + k) ≤ C
    high_less l = up_least (carried n a b f (n + k)) h P.some C (omega (arith, set_part))

    pub less_low : sum_in n (in_set a b k) f < h * C → (line n K a b h f).low (n + k) < C
    less_low l = lt_of_mul-lt-mul_right h (omega (arith, down_under (carried n a b f (n + k)) h P.some, set_part))

    pub low_more : h * C ≤ sum_in n (in_set a b k) f → C ≤ (line n K a b h f).low (n + k)
    low_more l = down_greatest (carried n a b f (n + k)) h P.some C (omega (arith, set_part))

    -- a set that is not too low
    pub not_low : ¬ (h * C + h ≤ sum_in n (in_set a b k) f) → (line n K a b h f).low (n + k) ≤ C
    not_low ne =
        let u : (line n K a b h f).low (n + k) < C + 1 =
        lt_of_mul-lt-mul_right h (omega (arith, down_under (carried n a b f (n + k)) h P.some, set_part)) in
        omega arith

  -- ---- which arcs can take one more or one less, with the rows in a word rounded up

  module _ (may : ℕ → Bool) (top : ℕ) where
    pub takes_up : (i : ℕ) (on : Bool) → i < n → (on ≡ true → (may i ≡ true) × (bit top i ≡ false) × (0 < f i))
        → (on ≡ false → may i ≡ true → bit top i ≡ false → f i ≡ 0)
        → Takes may (carried n a b (digit top)) (line n K a b h f).high i on
    takes_up i on l y z = record {
      can = λ q. let r = y q in (r.0, omega (arith, open_high i l r.2, carried_row (digit top) i l, digit_off top i r.1));
      cannot = λ q m. go q m (bit top i) refl;
    }
      where
        go : on ≡ false → may i ≡ true → (t : Bool) → bit top i ≡ t → (line n K a b h f).high i ≤ carried n a b (digit top) i
        go q m true e = omega (arith, row_high i l, carried_row (digit top) i l, digit_on top i e)
        go q m false e = omega (arith, row_whole i l (z q m e))

    pub takes_down : (i : ℕ) (on : Bool) → i < n → (on ≡ true → (may i ≡ true) × (bit top i ≡ true))
        → (on ≡ false → may i ≡ true → bit top i ≡ false)
        → Takes may (line n K a b h f).low (carried n a b (digit top)) i on
    takes_down i on l y z = record {
      can = λ q. let r = y q in (r.0, omega (arith, row_low i l, carried_row (digit top) i l, digit_on top i r.1));
      cannot = λ q m. omega (arith, carried_row (digit top) i l, digit_off top i (z q m));
    }

    pub takes_more : (k : ℕ) (on : Bool) → (on ≡ true → (may (n + k) ≡ true) ×
        (h * sum_in n (in_set a b k) (digit top) < sum_in n (in_set a b k) f))
        → (on ≡ false → may (n + k) ≡ true → sum_in n (in_set a b k) f ≤ h * sum_in n (in_set a b k) (digit top))
        → Takes may (carried n a b (digit top)) (line n K a b h f).high (n + k) on
    takes_more k on y z = record {
      can = λ q. let r = y q in (r.0, rw (carried_set (digit top) k) (more_high k _ r.1));
      cannot = λ q m. rw (carried_set (digit top) k) (high_less k _ (z q m));
    }

    pub takes_less : (k : ℕ) (on : Bool) → (on ≡ true → (may (n + k) ≡ true) ×
        (sum_in n (in_set a b k) f < h * sum_in n (in_set a b k) (digit top)))
        → (on ≡ false → may (n + k) ≡ true → h * sum_in n (in_set a b k) (digit top) ≤ sum_in n (in_set a b k) f)
        → Takes may (line n K a b h f).low (carried n a b (digit top)) (n + k) on
    takes_less k on y z = record {
      can = λ q. let r = y q in (r.0, rw (carried_set (digit top) k) (less_low k _ r.1));
      cannot = λ q m. rw (carried_set (digit top) k) (low_more k _ (z q m));
    }

  -- ---- settled amounts

  qualified_within : (z : ℕ → ℕ) → Qualified n K a b h f none z → Within (line n K a b h f) (carried n a b z)
  qualified_within z q =
      both (λ e. ((line n K a b h f).low e ≤ carried n a b z e) × (carried n a b z e ≤ (line n K a b h f).high e)) n K
      (λ i l.
      let r = rounded_between (f i) h P.some (z i) (rw (zero_plus (z i)) at (q.rows i l)) in
      rw (carried_row z i l, carried_row f i l) r)
      (λ k l.
      let D = in_set a b k in
      let r = rounded_between (sum_in n D f) h P.some (sum_in n D z) (rw (sum_none n D, zero_plus (sum_in n D z)) at (q.sets k l)) in
      rw (carried_set z k, carried_set f k) r)

  within_qualified : (z : ℕ → ℕ) → Within (line n K a b h f) (carried n a b z) → Qualified n K a b h f none z
  within_qualified z w = record {
    rows = λ i l.
        let r = rw (carried_row z i l, carried_row f i l) at (w i (omega arith)) in
        rw (zero_plus (z i)) (between_rounded (f i) h P.some (z i) r.0 r.1);
    sets = λ k l.
        let D = in_set a b k in
        let r = rw (carried_set z k, carried_set f k) at (w (n + k) (omega arith)) in
        rw (sum_none n D, zero_plus (sum_in n D z)) (between_rounded (sum_in n D f) h P.some (sum_in n D z) r.0 r.1);
  }

  pub settled_greatest : (z : ℕ → ℕ) → Settled n (line n K a b h f) (carried n a b z) → Greatest n (Qualified n K a b h f none) z
  settled_greatest z s = record {
    qualify = within_qualified z s.within;
    most = λ y q i l same.
        omega (
          arith,
          s.best i l (carried n a b y) (carried_circ y) (qualified_within y q)
              (λ j m. carried_row y j (omega arith) ∙ same j m ∙ sym (carried_row z j (omega arith))),
          carried_row y i l,
          carried_row z i l,
        );
  }
