-- Shares and lags (document 01, "Loads of one interval, and its slots"): if each row and each overlap set has had its share rounded down or
-- up where an interval starts, then no row's lag is below zero and no set's is above the interval's length, and so for the next one.
-- All is said in units of 1 / h: slots had, times h, stand beside shares.
use mathlib.Core.Path.{◌≡◌, refl, ap, ◌∙◌, subst₂}
use mathlib.Core.Logic.{◌↔◌, ⊎_elim}
use mathlib.Core.Bool.{Bool, not}
use Prim.Native.Nat.{ℕ, ◌+◌, ◌-◌, ◌*◌, ◌/◌, ◌≤◌, ◌<◌}
use native.Mathlib.Nat.{mul-le-mul_left, mul-le-mul_right, le_of_mul-le-mul_right, lt_of_mul-lt-mul_right}
use native.Mathlib.Omega.{arith}
use lib.Dec.{T, ltb, lt→ltb}
use Rattle.numbers.specs.Finite.{only, sum_in}
use Rattle.numbers.specs.Rounding.{Rounded}
use Rattle.numbers.proofs.Truth.{decide, refuted, both, is_true, is_false, le_or_lt}
use Rattle.numbers.proofs.Finite.{sum_in_eq, sum_in_add, sum_in_scaled, sum_zero, sum_term, only_zero, only_true}
use Rattle.numbers.proofs.Rounding.{rounded_is, rounded_of, rounded_scaled, rounded_whole, rounded_shift}
use Rattle.rules.specs.Bus.{Table, overlap}
use Rattle.rules.specs.Line.{OverlapSet}
use Rattle.rules.specs.Loads.{hyperperiod, shortest, start, end, intervals, rate, share, load, equal_periods, light, past, over}
use Rattle.rules.specs.Interval.{Qualify}
use Rattle.table.specs.Sound.{Sound}
use Rattle.lags.specs.Lags.{Admissible, lag, Steady}
use Rattle.lags.proofs.Intervals.{
  period_positive,
  hyperperiod_positive,
  shortest_positive,
  rate_period,
  periods_whole,
  start_first,
  end_far,
  equal_intervals,
}

-- ---- equal slots had

pub steady_eq : (t : Table) (s : ℕ) (f g : ℕ → ℕ) → ((i : ℕ) → i < t.rows → f i ≡ g i) → Steady t s f → Steady t s g
steady_eq t s f g e st = record {
  rows = λ i l. rw (← e i l) (st.rows i l);
  sets = λ D o. rw (← sum_in_eq t.rows D D f g (λ i l. refl) (λ i l d. e i l)) (st.sets D o);
}

-- a set's share is its load times the slot
set_share : (t : Table) (D : ℕ → Bool) (s : ℕ) → sum_in t.rows D (λ i. share t i s) ≡ load t D * s
set_share t D s = sum_in_scaled t.rows D (rate t) s

-- a row's share in units of 1 / h, and as cost × slot / period
pub rounded_share : {t : Table} → Sound t → (n i s : ℕ) → i < t.rows
    → Rounded n (share t i s) (hyperperiod t) ↔ Rounded n (t.cost i * s) (t.period i)
unfolding rate
rounded_share {t} S n i s l =
    let q : ℕ = hyperperiod t / t.period i in
    let h : t.period i * q ≡ hyperperiod t = omega (arith, periods_whole S i l) in
    let some : 0 < q = lt_of_mul-lt-mul_right (t.period i) (omega (arith, hyperperiod_positive S)) in
    subst₂ (λ (a b : ℕ). Rounded n a b ↔ Rounded n (t.cost i * s) (t.period i)) (omega arith) h
    (rounded_scaled n (t.cost i * s) (t.period i) q (period_positive S i l) some)

-- after m of its periods a row's share is m times its cost
pub share_whole : (t : Table) → Sound t → (i m s : ℕ) → i < t.rows → s ≡ m * t.period i → share t i s ≡ t.cost i * m * hyperperiod t
share_whole t S i m s l e =
    ap (λ (k : ℕ). rate t i * k) e
    ∙ omega (arith, ap (λ (k : ℕ). k * m) (rate_period S i l))

module _ {t : Table} (A : Admissible t) where
  h_positive : 0 < hyperperiod t
  h_positive = hyperperiod_positive A.sound

  -- ---- periods that differ

  module _ (differ : ¬ T (equal_periods t)) where
    -- cost × L is not below the period
    cost_heavy : (i : ℕ) → i < t.rows → t.period i ≤ t.cost i * shortest t
    unfolding light
    cost_heavy i l =
        ⊎_elim (λ h. h)
        (λ lt. absurd (A.heavy i l
        (both (not (equal_periods t)) (ltb (t.cost i * shortest t) (t.period i)) (refuted (equal_periods t) differ) (lt→ltb _ _ lt))))
        (le_or_lt (t.period i) (t.cost i * shortest t))

    -- a row's share grows by a slot or more in L slots
    rate_heavy : (i : ℕ) → i < t.rows → hyperperiod t ≤ rate t i * shortest t
    rate_heavy i l =
        let e : rate t i * t.period i * shortest t ≡ t.cost i * hyperperiod t * shortest t
        = ap (λ (k : ℕ). k * shortest t) (rate_period A.sound i l) in
        le_of_mul-le-mul_right {k = t.period i}
        (omega (arith, mul-le-mul_right (hyperperiod t) (cost_heavy i l))) (period_positive A.sound i l)

    -- a set's share grows by L − 1 slots or less in L slots
    load_bound : (D : ℕ → Bool) → OverlapSet t.rows (overlap t) D → load t D * shortest t ≤ (shortest t - 1) * hyperperiod t
    unfolding past over
    load_bound D o =
        ⊎_elim (λ h. h)
        (λ lt. absurd (A.bounded D o (rw (is_false (equal_periods t) differ) (lt→ltb _ _ lt))))
        (le_or_lt (load t D * shortest t) ((shortest t - 1) * hyperperiod t))

    load_le_h : (D : ℕ → Bool) → OverlapSet t.rows (overlap t) D → load t D ≤ hyperperiod t
    load_le_h D o =
        le_of_mul-le-mul_right {k = shortest t}
        (let le : shortest t - 1 ≤ shortest t = omega arith in
        omega (arith, load_bound D o, mul-le-mul_right (hyperperiod t) le))
        (shortest_positive A.sound)

    -- and so by l − 1 slots or less in l slots, where l is L or more
    load_bound_at : (D : ℕ → Bool) → OverlapSet t.rows (overlap t) D → (l : ℕ) → shortest t ≤ l
        → load t D * l + hyperperiod t ≤ l * hyperperiod t
    load_bound_at D o l le =
        let d : ℕ = l - shortest t in
        let e : l ≡ shortest t - 1 + 1 + d = omega (arith, shortest_positive A.sound) in
        let e' : l ≡ shortest t + d = omega arith in
        let p : l * hyperperiod t ≡ (shortest t - 1 + 1 + d) * hyperperiod t = ap (λ (k : ℕ). k * hyperperiod t) e in
        let q : load t D * l ≡ load t D * (shortest t + d) = ap (λ (k : ℕ). load t D * k) e' in
        omega (arith, load_bound D o, mul-le-mul_right d (load_le_h D o))

  -- ---- equal periods

  module _ (equal : T (equal_periods t)) where
    only_first : (k : ℕ) → k < intervals t → start t k ≡ 0
    only_first k l =
        let e : k ≡ 0 = omega (arith, equal_intervals A.sound equal) in
        ap (start t) e ∙ start_first A.sound

    equal_bound : (D : ℕ → Bool) → OverlapSet t.rows (overlap t) D → load t D ≤ hyperperiod t
    unfolding past over
    equal_bound D o =
        ⊎_elim (λ h. h)
        (λ lt. absurd (A.bounded D o (rw (is_true (equal_periods t) equal) (lt→ltb _ _ lt))))
        (le_or_lt (load t D) (hyperperiod t))

  -- ---- what has been had, and the shares, apart by less than a slot

  module _ {s : ℕ} {had : ℕ → ℕ} (st : Steady t s had) where
    pub row_ahead : (i : ℕ) → i < t.rows → had i * hyperperiod t < share t i s + hyperperiod t
    row_ahead i l = (rounded_is (share t i s) (hyperperiod t) h_positive (had i) (st.rows i l)).1

    pub row_behind : (i : ℕ) → i < t.rows → share t i s < had i * hyperperiod t + hyperperiod t
    row_behind i l =
        omega (arith, (rounded_is (share t i s) (hyperperiod t) h_positive (had i) (st.rows i l)).0)

    pub set_ahead : (D : ℕ → Bool) → OverlapSet t.rows (overlap t) D
        → sum_in t.rows D had * hyperperiod t < load t D * s + hyperperiod t
    set_ahead D o =
        rw (set_share t D s) at
        (rounded_is (sum_in t.rows D (λ i. share t i s)) (hyperperiod t) h_positive (sum_in t.rows D had) (st.sets D o)).1

    pub set_behind : (D : ℕ → Bool) → OverlapSet t.rows (overlap t) D
        → load t D * s < sum_in t.rows D had * hyperperiod t + hyperperiod t
    set_behind D o =
        let z = rw (set_share t D s) at
        (rounded_is (sum_in t.rows D (λ i. share t i s)) (hyperperiod t) h_positive (sum_in t.rows D had) (st.sets D o)).0 in
        omega arith

    -- at a multiple of a row's period its share is whole: it has had its cost for every period
    pub row_whole : (i m : ℕ) → i < t.rows → s ≡ m * t.period i → had i ≡ t.cost i * m
    row_whole i m l e =
        rounded_whole (had i) (t.cost i * m) (hyperperiod t) h_positive
        (rw (share_whole t A.sound i m s l e) at (st.rows i l))

  -- ---- the fresh state

  pub steady_fresh : Steady t 0 (λ i. 0)
  steady_fresh = record {
    rows = λ i l. none (rate t i);
    sets = λ D o. rw (set_share t D 0, nothing D) (none (load t D));
  }
    where
      nothing : (D : ℕ → Bool) → sum_in t.rows D (λ i. 0) ≡ 0
      nothing D = sum_zero t.rows (λ i. only (D i) 0) (λ i l. only_zero (D i))

      none : (a : ℕ) → Rounded 0 (a * 0) (hyperperiod t)
      none a = rounded_of (a * 0) (hyperperiod t) h_positive 0 (omega (arith, h_positive)) (omega (arith, h_positive))

  -- ---- lags of an interval

  module _ {k : ℕ} {had : ℕ → ℕ} (in_range : k < intervals t) (st : Steady t (start t k) had) where
    -- no row's lag is below zero
    pub row_lag : (i : ℕ) → i < t.rows → had i * hyperperiod t ≤ share t i (end t k)
    row_lag i l = ⊎_elim equal differ (decide (equal_periods t))
      where
        equal : T (equal_periods t) → had i * hyperperiod t ≤ share t i (end t k)
        equal eq =
            let e : start t k ≡ 0 = only_first eq k in_range in
            let z : share t i (start t k) ≡ share t i 0 = ap (share t i) e in
            let n : had i < 1 = lt_of_mul-lt-mul_right (hyperperiod t) (omega (arith, row_ahead st i l)) in
            let o : had i ≡ 0 = omega arith in
            rw o (omega arith)

        differ : ¬ T (equal_periods t) → had i * hyperperiod t ≤ share t i (end t k)
        differ ne =
            omega (
              arith,
              row_ahead st i l,
              rate_heavy ne i l,
              mul-le-mul_left (rate t i) (end_far A.sound k in_range),
            )

    -- no set's lag is above the interval's length
    pub set_lag : (D : ℕ → Bool) → OverlapSet t.rows (overlap t) D
        → sum_in t.rows D (λ i. share t i (end t k)) ≤ (sum_in t.rows D had + (end t k - start t k)) * hyperperiod t
    set_lag D o = rw (set_share t D (end t k)) (⊎_elim equal differ (decide (equal_periods t)))
      where
        l : ℕ
        l = end t k - start t k

        ends : end t k ≡ start t k + l
        ends = omega (arith, end_far A.sound k in_range)

        grown : load t D * end t k ≡ load t D * (start t k + l)
        grown = ap (λ (m : ℕ). load t D * m) ends

        equal : T (equal_periods t) → load t D * end t k ≤ (sum_in t.rows D had + l) * hyperperiod t
        equal eq =
            let e : load t D * start t k ≡ load t D * 0 = ap (λ (m : ℕ). load t D * m) (only_first eq k in_range) in
            omega (arith, grown, mul-le-mul_right l (equal_bound eq D o))

        differ : ¬ T (equal_periods t) → load t D * end t k ≤ (sum_in t.rows D had + l) * hyperperiod t
        differ ne =
            let far : shortest t ≤ l = omega (arith, end_far A.sound k in_range) in
            omega (arith, grown, set_behind st D o, load_bound_at ne D o l far)

    -- so loads and sums that are right for the state after them are never above the interval's length
    pub qualify_of : (x : ℕ → ℕ)
        → ((i : ℕ) → i < t.rows → Rounded (had i + x i) (share t i (end t k)) (hyperperiod t))
        → ((D : ℕ → Bool) → OverlapSet t.rows (overlap t) D
        → Rounded (sum_in t.rows D had + sum_in t.rows D x) (sum_in t.rows D (λ i. share t i (end t k))) (hyperperiod t))
        → Qualify t k had x
    qualify_of x rows sets = record {
      rows = rows;
      sets = sets;
      fits = λ D o.
          let z = (rounded_is (sum_in t.rows D (λ i. share t i (end t k))) (hyperperiod t) h_positive _ (sets D o)).1 in
          let b : sum_in t.rows D had + sum_in t.rows D x < sum_in t.rows D had + (end t k - start t k) + 1
          = lt_of_mul-lt-mul_right (hyperperiod t) (omega (arith, set_lag D o)) in
          omega arith;
    }

    -- ---- loads as lags rounded down or up

    row_parts : (i : ℕ) → i < t.rows → lag t k had i + had i * hyperperiod t ≡ share t i (end t k)
    unfolding lag
    row_parts i l = omega (arith, row_lag i l)

    set_parts : (D : ℕ → Bool)
        → sum_in t.rows D (lag t k had) + sum_in t.rows D had * hyperperiod t ≡ sum_in t.rows D (λ i. share t i (end t k))
    set_parts D =
        omega (
          arith,
          sum_in_scaled t.rows D had (hyperperiod t),
          sum_in_add t.rows D (lag t k had) (λ i. had i * hyperperiod t),
          sum_in_eq t.rows D D (λ i. lag t k had i + had i * hyperperiod t) (λ i. share t i (end t k))
              (λ i l. refl) (λ i l d. row_parts i l),
        )

    pub row_rounded : (x i : ℕ) → i < t.rows
        → Rounded (had i + x) (share t i (end t k)) (hyperperiod t) ↔ Rounded x (lag t k had i) (hyperperiod t)
    row_rounded x i l = rw (← row_parts i l) (rounded_shift (had i) x (lag t k had i) (hyperperiod t) h_positive)

    pub set_rounded : (D : ℕ → Bool) (x : ℕ)
        → Rounded (sum_in t.rows D had + x) (sum_in t.rows D (λ i. share t i (end t k))) (hyperperiod t)
        ↔ Rounded x (sum_in t.rows D (lag t k had)) (hyperperiod t)
    set_rounded D x =
        rw (← set_parts D) (rounded_shift (sum_in t.rows D had) x (sum_in t.rows D (lag t k had)) (hyperperiod t) h_positive)

    -- a set's summed lag is at most the interval's length
    pub lags_le : (D : ℕ → Bool) → OverlapSet t.rows (overlap t) D
        → sum_in t.rows D (lag t k had) ≤ (end t k - start t k) * hyperperiod t
    lags_le D o = omega (arith, set_parts D, set_lag D o)

    pub qualify_lags : (x : ℕ → ℕ) → ((i : ℕ) → i < t.rows → Rounded (x i) (lag t k had i) (hyperperiod t))
        → ((D : ℕ → Bool) → OverlapSet t.rows (overlap t) D
        → Rounded (sum_in t.rows D x) (sum_in t.rows D (lag t k had)) (hyperperiod t))
        → Qualify t k had x
    qualify_lags x rows sets =
        qualify_of x (λ i l. (row_rounded (x i) i l).1 (rows i l)) (λ D o. (set_rounded D (sum_in t.rows D x)).1 (sets D o))

-- ---- the state after an interval

pub steady_next : {t : Table} {k : ℕ} {had x : ℕ → ℕ} → Qualify t k had x → Steady t (end t k) (λ i. had i + x i)
steady_next {t} {k} {had} {x} Q = record {
  rows = Q.rows;
  sets = λ D o. rw (sum_in_add t.rows D had x) (Q.sets D o);
}

-- a row of some overlap set has no more than the interval's slots
pub load_le : {t : Table} {k : ℕ} {had x : ℕ → ℕ} → Qualify t k had x → (D : ℕ → Bool) → OverlapSet t.rows (overlap t) D
    → (i : ℕ) → T (D i) → x i ≤ end t k - start t k
load_le {t} {k} {had} {x} Q D o i d =
    omega (
      arith,
      sum_term t.rows (λ j. only (D j) (x j)) i (o.rows i d),
      only_true (D i) (x i) (is_true (D i) d),
      Q.fits D o,
    )
