-- The weights of a sound table's rows and sets, found row by row and set by set: what one turn of each loop does, and that the code's
-- weights are document 01's loads and bound.
use mathlib.Core.Path.{◌≡◌, refl, sym, ap, ◌∙◌}
use mathlib.Core.Logic.{⊎_elim}
use mathlib.Core.Bool.{Bool, true, false, not, ◌&&◌}
use mathlib.Core.List.{List}
use Prim.Native.Nat.{ℕ, ◌+◌, ◌-◌, ◌*◌, ◌/◌, ◌≤◌, ◌<◌, max}
use native.Mathlib.Nat.{le_of_dvd, eq-or-lt_of_le, mul-le-mul, mul-le-mul_right, le_of_mul-le-mul_right, div-eq_of_lt-le}
use Rattle.std.specs.Int.{div_ceil}
use Rattle.std.proofs.lemmas.Grind.{div_ceil_times}
use Rattle.numbers.specs.Rounding.{up}
use native.Mathlib.Omega.{arith}
use lib.Dec.{T, ltb, eqb, eqb→eq, lt→ltb}
use borrow.Author.Count.{below_more}
use borrow.Author.Tests.{le-ltb}
use Rattle.numbers.specs.Finite.{lowest, largest}
use Rattle.numbers.specs.Word.{bit}
use Rattle.numbers.specs.Lists.{at}
use Rattle.numbers.proofs.Truth.{both, fst, snd, decide, is_true, is_false, of_true, eqb_of, le_or_lt}
use Rattle.numbers.proofs.Finite.{every_of, lowest_is, lowest_none, lowest_le, lowest_has, lowest_below, lowest_eq}
use Rattle.numbers.proofs.Finite.{sum_in_eq, sum_in_most, largest_next, largest_eq}
use Rattle.rules.specs.Bounds.{max_rows, max_slots}
use Rattle.rules.specs.Bus.{Table}
use Rattle.rules.specs.Loads.{hyperperiod, shortest, rate, load, equal_periods, light, past, over}
use Rattle.table.specs.Sound.{Sound}
use Rattle.table.specs.Columns.{ByRow}
use Rattle.sets.proofs.Sums.{sum_none}
use Rattle.lags.proofs.Intervals.{period_divides, hyperperiod_positive, shortest_positive, shortest_low, rate_period, rate_le}
use Rattle.lags.proofs.Intervals.{equal_shortest, equal_hyperperiod}
use Rattle.verdict.specs.Weights.{Times, Rates, weight, next_lowest, Weighed}

-- ---- equal periods

-- L divides every period and every period divides h, so all are equal exactly if L is h
module _ {t : Table} (s : Sound t) where
  all_equal : shortest t ≡ hyperperiod t → T (equal_periods t)
  unfolding equal_periods
  all_equal e =
      let same : (i : ℕ) → i < t.rows → t.period i ≡ hyperperiod t =
      λ i l. omega (arith, shortest_low s i l, le_of_dvd (hyperperiod_positive s) (period_divides s i l), e) in
      every_of t.rows (λ j. eqb (t.period j) (t.period 0))
      (λ j m. eqb_of (t.period j) (t.period 0) (same j m ∙ sym (same 0 s.rows_low)))

  pub equal_is : eqb (shortest t) (hyperperiod t) ≡ equal_periods t
  equal_is =
      let p : Bool = eqb (shortest t) (hyperperiod t) in
      ⊎_elim (λ h. is_true p h ∙ sym (is_true (equal_periods t) (all_equal (eqb→eq (shortest t) (hyperperiod t) h))))
      (λ f. is_false p f
      ∙ sym (is_false (equal_periods t)
      (λ e. f (eqb_of (shortest t) (hyperperiod t) (equal_shortest s e ∙ sym (equal_hyperperiod s e))))))
      (decide p)

-- ---- light rows

pub times_of : {t : Table} → Sound t → Times t.rows t.cost t.period
times_of s = record {
  few = s.rows_high;
  period_low = λ i l. (s.row i l).period_low;
  period_high = λ i l. (s.row i l).period_high;
  cost_high = λ i l. (s.row i l).cost_high;
}

-- where all periods are equal no cost × L is below one
pub light_is : {t : Table} → Sound t → (i : ℕ) → i < t.rows → ltb (t.cost i * shortest t) (t.period i) ≡ light t i
unfolding light
light_is {t} s i l = go (equal_periods t) refl
  where
    go : (e : Bool) → equal_periods t ≡ e → ltb (t.cost i * shortest t) (t.period i) ≡ light t i
    go true e =
        let h : shortest t ≡ hyperperiod t = equal_shortest s (of_true e) ∙ sym (equal_hyperperiod s (of_true e)) in
        let m : 1 * shortest t ≤ t.cost i * shortest t = mul-le-mul_right (shortest t) (s.row i l).cost_low in
        let p : t.period i ≤ t.cost i * shortest t =
        omega (arith, h, m, le_of_dvd (hyperperiod_positive s) (period_divides s i l)) in
        rw e (le-ltb (t.cost i * shortest t) (t.period i) p)
    go false e = rw e refl

-- ---- the rates

pub rates_are : (t : Table) {h : ℕ} {xs : List ℕ} → h ≡ hyperperiod t → ByRow t.rows (λ i. h / t.period i * t.cost i) xs
    → ByRow t.rows (rate t) xs
unfolding rate
rates_are t e B = rw e at B

-- ---- the load of a set

pub weight_none : (n : ℕ) (xs : List ℕ) → 0 ≡ weight n xs 0
unfolding weight
weight_none n xs = sym (sum_none n 0 (at xs) refl)

pub weight_small : {n : ℕ} {xs : List ℕ} → Rates xs n → (w : ℕ) → weight n xs w ≤ n * max_slots
unfolding weight
weight_small {n} {xs} S w = sum_in_most n (bit w) (at xs) max_slots S.small

-- ---- the lowest row or set that passes a test

pub lowest_start : (p : ℕ → Bool) → 0 ≡ lowest 0 p
unfolding lowest
lowest_start p = refl

pub lowest_next : (n : ℕ) (p : ℕ → Bool) → lowest (n + 1) p ≡ next_lowest (lowest n p) n (p n)
unfolding next_lowest
lowest_next n p =
    ⊎_elim
    (λ (e : lowest n p ≡ n).
    ⊎_elim
    (λ t. lowest_is (n + 1) p n (omega arith) t (λ j l. lowest_below n p j (omega arith))
    ∙ rw (is_true (p n) t, is_false (eqb (lowest n p) n && false) (λ h. snd (eqb (lowest n p) n) false h)) (sym e))
    (λ f. lowest_none (n + 1) p (below_more _ _ (λ j l. lowest_below n p j (omega arith)) f)
    ∙ rw (is_false (p n) f, is_true (eqb (lowest n p) n && true) (both (eqb (lowest n p) n) true (eqb_of (lowest n p) n e) tt)))
    (decide (p n)))
    (λ (l : lowest n p < n).
    lowest_is (n + 1) p (lowest n p) (omega arith) (lowest_has n p l) (lowest_below n p)
    ∙ rw (is_false (eqb (lowest n p) n && not (p n)) (λ h. omega (arith, eqb→eq (lowest n p) n (fst (eqb (lowest n p) n) (not (p n)) h)))))
    (eq-or-lt_of_le (lowest_le n p))

-- ---- the pass over the sets

module _ {n : ℕ} {xs ws : List ℕ} {e : Bool} {h l : ℕ} where
  pub weighed_start : Weighed n xs 0 ws e h l 0 0
  unfolding lowest largest
  weighed_start = record { over_is = refl; largest_is = refl; small = omega arith }

  pub weighed_next : {k a b x : ℕ} → Weighed n xs k ws e h l a b → x ≡ weight n xs (at ws k) → x ≤ max_rows * max_slots
      → Weighed n xs (k + 1) ws e h l (next_lowest a k (past e h l x)) (max b x)
  weighed_next {k} {a} {b} {x} w i s = record {
    over_is =
        ap (λ (j : ℕ). next_lowest j k (past e h l x)) w.over_is
        ∙ ap (λ (j : ℕ). next_lowest (lowest k (λ j. past e h l (weight n xs (at ws j)))) k (past e h l j)) i
        ∙ sym (lowest_next k (λ j. past e h l (weight n xs (at ws j))));
    largest_is =
        ap (λ (j : ℕ). max j x) w.largest_is ∙ ap (λ (j : ℕ). max (largest k (λ j. weight n xs (at ws j))) j) i
        ∙ sym (largest_next (λ j. weight n xs (at ws j)) k);
    small = omega (arith, w.small);
  }

  -- another list that is the same so far
  pub weighed_more : {vs : List ℕ} {k a b : ℕ} → ((j : ℕ) → j < k → at vs j ≡ at ws j) → Weighed n xs k ws e h l a b
      → Weighed n xs k vs e h l a b
  weighed_more {vs} {k} same w = record {
    over_is =
        w.over_is
        ∙ lowest_eq k (λ j. past e h l (weight n xs (at ws j))) (λ j. past e h l (weight n xs (at vs j)))
        (λ j m. ap (λ (v : ℕ). past e h l (weight n xs v)) (sym (same j m)));
    largest_is =
        w.largest_is
        ∙ largest_eq k (λ j. weight n xs (at ws j)) (λ j. weight n xs (at vs j)) (λ j m. ap (weight n xs) (sym (same j m)));
    small = w.small;
  }

-- ---- as document 01 has them

module _ (t : Table) (xs : List ℕ) (r : (i : ℕ) → i < t.rows → at xs i ≡ rate t i) where
  pub weight_load : (w : ℕ) → weight t.rows xs w ≡ load t (bit w)
  unfolding weight
  weight_load w = sum_in_eq t.rows (bit w) (bit w) (at xs) (rate t) (λ i l. refl) (λ i l b. r i l)

-- every row has some load, as its cost is some, and none is above 1
rate_some : {t : Table} → Sound t → (i : ℕ) → i < t.rows → 1 ≤ rate t i
rate_some {t} s i l =
    ⊎_elim (λ (z : rate t i ≤ 0).
    let y : rate t i ≡ 0 = omega arith in
    let none : 0 * t.period i ≡ t.cost i * hyperperiod t = sym (ap (λ (x : ℕ). x * t.period i) y) ∙ rate_period s i l in
    absurd (let some = mul-le-mul (s.row i l).cost_low (hyperperiod_positive s) in omega (arith, some, none)))
    (λ m. m)
    (le_or_lt (rate t i) 0)

pub rates_small : {t : Table} → Sound t → hyperperiod t ≤ max_slots → {xs : List ℕ} → ByRow t.rows (rate t) xs → Rates xs t.rows
rates_small s h B = record {
  few = s.rows_high;
  some = λ i l. omega (arith, B.row i l, rate_some s i l);
  small = λ i l. omega (arith, B.row i l, rate_le s i l);
}

pub past_over : (t : Table) (D : ℕ → Bool) → past (equal_periods t) (hyperperiod t) (shortest t) (load t D) ≡ over t D
unfolding over
past_over t D = refl

-- a set that is not over its bound has a load of at most 1
pub within_one : {t : Table} → Sound t → (D : ℕ → Bool) → (T (over t D) → ⊥) → load t D ≤ hyperperiod t
unfolding past over
within_one {t} s D u = go (equal_periods t) refl
  where
    go : (b : Bool) → equal_periods t ≡ b → load t D ≤ hyperperiod t
    go true e =
        let h : ¬ (hyperperiod t < load t D) = λ l. u (rw e (lt→ltb (hyperperiod t) (load t D) l)) in
        omega arith
    go false e =
        let h : ¬ ((shortest t - 1) * hyperperiod t < load t D * shortest t) =
        λ l. u (rw e (lt→ltb ((shortest t - 1) * hyperperiod t) (load t D * shortest t) l)) in
        let m : (shortest t - 1) * hyperperiod t ≤ shortest t * hyperperiod t = mul-le-mul_right (hyperperiod t) (omega arith) in
        le_of_mul-le-mul_right (omega arith) (shortest_positive s)

-- ---- rounded up

-- what the library's `div_ceil` gives
pub ceil_up : (a b : ℕ) → 0 < b → div_ceil a b ≡ up a b
ceil_up a b pos =
    let C = div_ceil_times a b pos in
    sym (div-eq_of_lt-le b (omega (arith, C.0, C.1)) (omega (arith, C.0, C.1)))
