-- The planning intervals of a sound table. How the hyperperiod is cut, and what L is, is seen in this file alone; all else rests on its
-- laws: the first interval starts at slot 0, each ends where the next starts, none is shorter than L and one is as short, and every
-- multiple of every period up to h is the start of one, where h counts as the start of the one after the last. L is the least greatest
-- common divisor of any two periods (`shortest_gcd`). Where each ends and starts, as the code works it out, stands here too (`end_is`,
-- `even_end`, `even_start`).
use mathlib.Core.Path.{◌≡◌, refl, sym, ap, subst, ◌∙◌}
use mathlib.Core.Bool.{◌&&◌}
use mathlib.Core.Logic.{◌≢◌, ⊎_elim}
use Prim.Native.Nat.{ℕ, zero, suc, ◌+◌, ◌-◌, ◌*◌, ◌/◌, ◌%◌, ◌≤◌, ◌<◌, ◌∣◌, min}
use native.Mathlib.Nat.{le_refl, eq-or-lt_of_le, le_of_suc-le-suc, le_of_dvd, zero-mul}
use native.Mathlib.Nat.{div-mul_cancel, mul-div_cancel, mod-lt, mod-add-div'}
use native.Mathlib.Nat.{mul-le-mul_left, pos_of_dvd_of_pos}
use native.Mathlib.Nat.{dvd_refl, dvd_trans, dvd-zero, dvd-mul_left, dvd-mul_left_of_dvd, dvd-add_iff_right, dvd-mod_iff}
use native.Mathlib.Numerals.{add-one}
use native.Mathlib.Omega.{arith}
use lib.Dec.{T, eqb, eqb→eq}
use Rattle.numbers.specs.Finite.{sum, count}
use Rattle.numbers.specs.Divisors.{divides, Leads, Past}
use Rattle.numbers.specs.Pairs.{IsGcd, LeastGcd}
use Rattle.numbers.proofs.Truth.{both, fst, snd, eqb_of, is_true, le_or_lt}
use Rattle.numbers.proofs.Finite.{any_of, least, every_at, lowest_below, lowest_has, lowest_under, only_true}
use Rattle.numbers.proofs.Finite.{count_mono, count_split, count_none}
use Rattle.numbers.proofs.Pairs.{pair_gcd, pair_gcd_self, pair_gcd_only, pair_gcd_near}
use Rattle.numbers.proofs.Divisors.{dvd_of, of_dvd, lcm_multiple, lcm_positive, lcm_same}
use Rattle.numbers.proofs.Divisors.{past_only, past_led, least_gcd_only, least_gcd_led}
use Rattle.rules.specs.Bounds.{max_slots}
use Rattle.rules.specs.Bus.{Table}
use Rattle.rules.specs.Loads.{hyperperiod, job_end, next_end, start, end, intervals, some_interval, shortest, rate, equal_periods}
use Rattle.table.specs.Sound.{Sound}

-- Costs say nothing of L.
pub cost_unseen : (t : Table) (cost : ℕ → ℕ) → shortest record {
  elements = t.elements;
  rows = t.rows;
  rings = t.rings;
  cost = cost;
  period = t.period;
  first = t.first;
  second = t.second;
  way = t.way;
} ≡ shortest t
unfolding shortest some_interval next_end job_end hyperperiod
cost_unseen t cost = refl

module _ {t : Table} (S : Sound t) where
  pub period_positive : (i : ℕ) → i < t.rows → 0 < t.period i
  period_positive i l = (S.row i l).period_low

  -- ---- the hyperperiod

  pub hyperperiod_positive : 0 < hyperperiod t
  unfolding hyperperiod
  hyperperiod_positive = lcm_positive t.rows t.period period_positive

  pub period_divides : (i : ℕ) → i < t.rows → t.period i ∣ hyperperiod t
  unfolding hyperperiod
  period_divides = lcm_multiple t.rows t.period period_positive

  -- h is a whole number of periods
  pub periods_whole : (i : ℕ) → i < t.rows → hyperperiod t / t.period i * t.period i ≡ hyperperiod t
  periods_whole i l = div-mul_cancel (t.period i) (period_divides i l)

  -- ---- the rates

  pub rate_period : (i : ℕ) → i < t.rows → rate t i * t.period i ≡ t.cost i * hyperperiod t
  unfolding rate
  rate_period i l = omega (arith, ap (λ (k : ℕ). k * t.cost i) (periods_whole i l))

  pub rate_le : (i : ℕ) → i < t.rows → rate t i ≤ hyperperiod t
  unfolding rate
  rate_le i l = omega (arith, mul-le-mul_left (hyperperiod t / t.period i) (S.row i l).cost_high, periods_whole i l)

  -- ---- where jobs end

  multiple_ends : (i s : ℕ) → i < t.rows → t.period i ∣ s → T (job_end t s)
  unfolding job_end
  multiple_ends i s l d = any_of t.rows (λ i. divides (t.period i) s) i l (of_dvd (t.period i) s d)

  ends_multiple : (s : ℕ) → T (job_end t s) → (i : ℕ) × (i < t.rows) × (t.period i ∣ s)
  unfolding job_end
  ends_multiple s h =
      let r = least t.rows (λ i. divides (t.period i) s) h in
      (r.0, r.1, dvd_of (t.period r.0) s r.2)

  zero_ends : T (job_end t 0)
  zero_ends = multiple_ends 0 0 S.rows_low (dvd-zero (t.period 0))

  hyperperiod_ends : T (job_end t (hyperperiod t))
  hyperperiod_ends = multiple_ends 0 (hyperperiod t) S.rows_low (period_divides 0 S.rows_low)

  next_far : (s : ℕ) → s < next_end t s
  unfolding next_end
  next_far s = omega arith

  next_none : (s u : ℕ) → s < u → u < next_end t s → T (job_end t u) → ⊥
  unfolding next_end
  next_none s u l m h =
      let e : suc (s + (u - s - 1)) ≡ u = omega arith in
      lowest_below (hyperperiod t) (λ d. job_end t (suc (s + d))) (u - s - 1) (omega arith) (rw e h)

  next_least : (s u : ℕ) → s < u → T (job_end t u) → next_end t s ≤ u
  next_least s u l h = ⊎_elim (λ a. a) (λ a. absurd (next_none s u l a h)) (le_or_lt (next_end t s) u)

  -- there is one: the multiple of the first row's period past s
  next_ends : (s : ℕ) → T (job_end t (next_end t s))
  unfolding next_end
  next_ends s =
      let p : ℕ = t.period 0 in
      let pos : 0 < p = period_positive 0 S.rows_low in
      let u : ℕ = (s / p + 1) * p in
      let q : s % p + s / p * p ≡ s = mod-add-div' s p in
      let r : s % p < p = mod-lt s pos in
      let near : p ≤ hyperperiod t = le_of_dvd hyperperiod_positive (period_divides 0 S.rows_low) in
      let e : suc (s + (u - s - 1)) ≡ u = omega arith in
      let far : u - s - 1 < hyperperiod t = omega arith in
      let there : T (job_end t (suc (s + (u - s - 1)))) = rw e (multiple_ends 0 u S.rows_low (dvd-mul_left p (s / p + 1))) in
      lowest_has (hyperperiod t) (λ d. job_end t (suc (s + d)))
      (omega (arith, lowest_under (hyperperiod t) (λ d. job_end t (suc (s + d))) (u - s - 1) there))

  next_past : (s : ℕ) → Past t.rows t.period s (next_end t s)
  next_past s = record {
    past = next_far s;
    some = ends_multiple (next_end t s) (next_ends s);
    none = λ i u l a b d. next_none s u a b (multiple_ends i u l d);
  }

  -- ---- how the hyperperiod is cut

  pub start_first : start t 0 ≡ 0
  unfolding start
  start_first = refl

  pub end_next : (k : ℕ) → end t k ≡ start t (k + 1)
  unfolding end start
  end_next k = rw add-one

  start_ends : (k : ℕ) → T (job_end t (start t k))
  unfolding start
  start_ends zero = zero_ends
  start_ends (suc k) = next_ends (start t k)

  -- from one such slot to the next the count goes up by one
  count_next : (s : ℕ) → T (job_end t s) → count (next_end t s) (job_end t) ≡ count s (job_end t) + 1
  unfolding sum
  count_next s h =
      let far = next_far s in
      let m : ℕ = next_end t s - suc s in
      let e : suc s + m ≡ next_end t s = omega arith in
      let none : count m (λ i. job_end t (suc s + i)) ≡ 0 =
      count_none m (λ i. job_end t (suc s + i)) (λ i l. next_none s (suc s + i) (omega arith) (omega arith)) in
      ap (λ (k : ℕ). count k (job_end t)) (sym e)
      ∙ omega (arith, count_split (suc s) m (job_end t), only_true (job_end t s) 1 (is_true (job_end t s) h))

  start_count : (k : ℕ) → count (start t k) (job_end t) ≡ k
  unfolding start sum
  start_count zero = refl
  start_count (suc k) = count_next (start t k) (start_ends k) ∙ omega (arith, start_count k)

  -- fewer jobs end before such a slot than before any slot past it
  count_less : (s u : ℕ) → T (job_end t s) → s < u → count s (job_end t) < count u (job_end t)
  unfolding sum
  count_less s u h l =
      omega (arith, count_mono (suc s) u (job_end t) l, only_true (job_end t s) 1 (is_true (job_end t s) h))

  -- an interval starts at each
  start_of : (s : ℕ) → T (job_end t s) → start t (count s (job_end t)) ≡ s
  start_of s h =
      let k : ℕ = count s (job_end t) in
      let u : ℕ = start t k in
      let a : ¬ (u < s) = λ l. omega (arith, count_less u s (start_ends k) l, start_count k) in
      let b : ¬ (s < u) = λ l. omega (arith, count_less s u h l, start_count k) in
      omega arith

  pub start_last : start t (intervals t) ≡ hyperperiod t
  unfolding intervals
  start_last = start_of (hyperperiod t) hyperperiod_ends

  start_inside : (k : ℕ) → k < intervals t → start t k < hyperperiod t
  unfolding intervals
  start_inside k l =
      ⊎_elim (λ h. absurd (omega (arith, count_mono (hyperperiod t) (start t k) (job_end t) h, start_count k))) (λ h. h)
      (le_or_lt (hyperperiod t) (start t k))

  -- ---- every job ends where an interval does

  pub multiple_starts : (i m : ℕ) → i < t.rows → m * t.period i ≤ hyperperiod t
      → (k : ℕ) × (k ≤ intervals t) × (start t k ≡ m * t.period i)
  unfolding intervals
  multiple_starts i m l h =
      let s : ℕ = m * t.period i in
      (count s (job_end t), count_mono s (hyperperiod t) (job_end t) h, start_of s (multiple_ends i s l (dvd-mul_left (t.period i) m)))

  -- ---- L is the shortest interval

  some_at : (s l : ℕ) → s < hyperperiod t → T (job_end t s) → next_end t s ≡ s + l → T (some_interval t l)
  unfolding some_interval
  some_at s l h j e =
      any_of (hyperperiod t) (λ s. job_end t s && eqb (next_end t s) (s + l)) s h
      (both (job_end t s) (eqb (next_end t s) (s + l)) j (eqb_of (next_end t s) (s + l) e))

  at_some : (l : ℕ) → T (some_interval t l) → (s : ℕ) × (s < hyperperiod t) × T (job_end t s) × (next_end t s ≡ s + l)
  unfolding some_interval
  at_some l h =
      let r = least (hyperperiod t) (λ s. job_end t s && eqb (next_end t s) (s + l)) h in
      let s : ℕ = r.0 in (
        s,
        r.1,
        fst (job_end t s) (eqb (next_end t s) (s + l)) r.2,
        eqb→eq (next_end t s) (s + l) (snd (job_end t s) (eqb (next_end t s) (s + l)) r.2),
      )

  -- it is no longer than what comes after any such slot
  shortest_under : (s : ℕ) → s < hyperperiod t → T (job_end t s) → s + shortest t ≤ next_end t s
  unfolding shortest
  shortest_under s h j =
      let l : ℕ = next_end t s - s in
      let e : next_end t s ≡ s + l = omega (arith, next_far s) in
      omega (arith, lowest_under (suc (hyperperiod t)) (some_interval t) l (some_at s l h j e))

  -- the first interval ends at h at the latest, so there is one that is no longer than h
  shortest_at : (s : ℕ) × (s < hyperperiod t) × T (job_end t s) × (next_end t s ≡ s + shortest t)
  unfolding shortest
  shortest_at =
      let e : next_end t 0 ≡ 0 + next_end t 0 = omega arith in
      let first : T (some_interval t (next_end t 0)) = some_at 0 (next_end t 0) hyperperiod_positive zero_ends e in
      let l = lowest_under (suc (hyperperiod t)) (some_interval t) (next_end t 0) first in
      at_some (shortest t) (lowest_has (suc (hyperperiod t)) (some_interval t)
      (omega (arith, next_least 0 (hyperperiod t) hyperperiod_positive hyperperiod_ends)))

  pub shortest_positive : 0 < shortest t
  shortest_positive = let r = shortest_at in omega (arith, next_far r.0, r.3)

  -- no interval is shorter
  pub end_far : (k : ℕ) → k < intervals t → start t k + shortest t ≤ end t k
  unfolding end
  end_far k l = shortest_under (start t k) (start_inside k l) (start_ends k)

  -- and one is as short
  pub shortest_some : (k : ℕ) × (k < intervals t) × (end t k ≡ start t k + shortest t)
  unfolding end intervals
  shortest_some =
      let r = shortest_at in
      let s : ℕ = r.0 in
      let e : start t (count s (job_end t)) ≡ s = start_of s r.2 in
      (count s (job_end t), count_less s (hyperperiod t) r.2 r.1, rw e r.3)

  -- ---- L is the least greatest common divisor of any two periods

  -- of any two periods two multiples lie as close, one of them below h
  shortest_le_gcd : (i j d : ℕ) → i < t.rows → j < t.rows → IsGcd (t.period i) (t.period j) d → shortest t ≤ d
  shortest_le_gcd i j d a b D =
      let h : ℕ = hyperperiod t in
      let p : ℕ = t.period i in
      let q : ℕ = t.period j in
      let w = pair_gcd_near (period_positive j b) D in
      let x : ℕ = w.0 * p in
      let s : ℕ = x % h in
      let e : s + x / h * h ≡ x = mod-add-div' x h in
      let low : s < h = mod-lt x hyperperiod_positive in
      let ps : p ∣ s = (dvd-mod_iff p (period_divides i a)).1 (dvd-mul_left p w.0) in
      let qh : q ∣ x / h * h = dvd-mul_left_of_dvd q (period_divides j b) (x / h) in
      let f : x / h * h + (s + d) ≡ x + d = omega arith in
      let qs : q ∣ s + d = (dvd-add_iff_right q qh).1 (rw f w.1) in
      let pos : 0 < d = pos_of_dvd_of_pos D.left (period_positive i a) in
      omega (arith, shortest_under s low (multiple_ends i s a ps), next_least s (s + d) (omega arith) (multiple_ends j (s + d) b qs))

  pub shortest_gcd : LeastGcd t.rows t.period (shortest t)
  shortest_gcd =
      let r = shortest_at in
      let s : ℕ = r.0 in
      let a = ends_multiple s r.2 in
      let b = ends_multiple (next_end t s) (next_ends s) in
      let g = pair_gcd (t.period a.0) (t.period b.0) in
      let G : IsGcd (t.period a.0) (t.period b.0) g.0 = g.1 in
      let ds : g.0 ∣ s = dvd_trans g.0 G.left a.2 in
      let de : g.0 ∣ s + shortest t = subst (λ (u : ℕ). g.0 ∣ u) r.3 (dvd_trans g.0 G.right b.2) in
      let le : g.0 ≤ shortest t = le_of_dvd shortest_positive ((dvd-add_iff_right g.0 ds).1 de) in
      let e : g.0 ≡ shortest t = omega (arith, shortest_le_gcd a.0 b.0 g.0 a.1 b.1 G) in
      record { some = (a.0, b.0, a.1, b.1, rw e at G); least = shortest_le_gcd }

  pub shortest_low : (i : ℕ) → i < t.rows → shortest t ≤ t.period i
  shortest_low i l = shortest_le_gcd i i (t.period i) l l (pair_gcd_self (t.period i))

  pub shortest_le : shortest t ≤ max_slots
  shortest_le = let r = S.row 0 S.rows_low in omega (arith, shortest_low 0 S.rows_low)

  -- ---- what follows from that cut

  pub intervals_positive : 0 < intervals t
  intervals_positive =
      let some : intervals t ≢ 0 = λ e. omega (arith, ap (start t) e, start_first, start_last, hyperperiod_positive) in
      omega arith

  pub start_mono : (m k : ℕ) → m ≤ k → k ≤ intervals t → start t m ≤ start t k
  start_mono m zero l h = let e : m ≡ 0 = omega arith in rw e (le_refl (start t 0))
  start_mono m (suc k) l h =
      ⊎_elim
      (λ e. rw e (le_refl (start t (suc k))))
      (λ n. omega (arith, start_mono m k (le_of_suc-le-suc n) (omega arith), end_far k h, end_next k, ap (start t) (add-one k)))
      (eq-or-lt_of_le l)

  pub start_strict : (m k : ℕ) → m < k → k ≤ intervals t → start t m < start t k
  start_strict m k l h =
      omega (arith, end_far m (omega arith), end_next m, shortest_positive, start_mono (m + 1) k (omega arith) h)

  start_least : (k : ℕ) → k ≤ intervals t → k ≤ start t k
  start_least zero h = omega arith
  start_least (suc k) h = omega (arith, start_least k (omega arith), start_strict k (suc k) (omega arith) h)

  -- there are no more intervals than slots
  pub intervals_le : intervals t ≤ hyperperiod t
  intervals_le = omega (arith, start_least (intervals t) (le_refl (intervals t)), start_last)

  -- the slots where intervals start tell them apart
  pub start_below : (m k : ℕ) → m ≤ intervals t → start t m < start t k → m < k
  start_below m k h l = ⊎_elim (λ g. absurd (omega (arith, start_mono k m g h))) (λ g. g) (le_or_lt k m)

  pub start_same : (m k : ℕ) → m ≤ k → k ≤ intervals t → start t k ≤ start t m → m ≡ k
  start_same m k l h g = ⊎_elim (λ e. e) (λ n. absurd (omega (arith, start_strict m k n h))) (eq-or-lt_of_le l)

  -- the start of interval k, or h where there are no more than k: it is h exactly then
  pub start_in : (k : ℕ) → k < intervals t → start t (min k (intervals t)) ≡ start t k
  start_in k l = let e : min k (intervals t) ≡ k = omega arith in ap (start t) e

  pub start_late : (k : ℕ) → intervals t ≤ k → start t (min k (intervals t)) ≡ hyperperiod t
  start_late k l = let e : min k (intervals t) ≡ intervals t = omega arith in ap (start t) e ∙ start_last

  pub late_start : (k : ℕ) → start t (min k (intervals t)) ≡ hyperperiod t → intervals t ≤ k
  late_start k e =
      ⊎_elim (λ l. l)
      (λ l. absurd (omega (arith, e, start_in k l, start_strict k (intervals t) l (le_refl (intervals t)), start_last)))
      (le_or_lt (intervals t) k)

  pub end_le : (k : ℕ) → k < intervals t → end t k ≤ hyperperiod t
  end_le k l = omega (arith, end_next k, start_mono (k + 1) (intervals t) (omega arith) (le_refl (intervals t)), start_last)

  -- ---- as the code works it out, from m numbers f that lead the periods

  module _ {m : ℕ} {f : ℕ → ℕ} (L : Leads t.rows t.period m f) where
    pub shortest_is : {l : ℕ} → LeastGcd m f l → l ≡ shortest t
    shortest_is G = least_gcd_only (least_gcd_led period_positive L G) shortest_gcd

    -- the end of interval k, from its start
    pub end_is : (k r : ℕ) → Past m f (start t k) r → r ≡ end t k
    unfolding end
    end_is k r P = past_only (past_led L P) (next_past (start t k))

  -- one that leads is L, and all intervals are as long
  module _ (f : ℕ → ℕ) (L : Leads t.rows t.period 1 f) where
    even_shortest : f 0 ≡ shortest t
    even_shortest = shortest_is L (record {
      some = (0, 0, omega arith, omega arith, pair_gcd_self (f 0));
      least = λ i j d a b D.
          let x : i ≡ 0 = omega arith in
          let y : j ≡ 0 = omega arith in
          omega (arith, pair_gcd_only (rw (x, y) at D) (pair_gcd_self (f 0)));
    })

    even_next : (s : ℕ) → shortest t ∣ s → next_end t s ≡ s + shortest t
    even_next s d = past_only (next_past s) (past_led L (record {
      past = omega (arith, shortest_positive);
      some = (0, omega arith, rw even_shortest ((dvd-add_iff_right (shortest t) d).0 (dvd_refl (shortest t))));
      none = λ i u l a b e.
          let x : i ≡ 0 = omega arith in
          let v : s + (u - s) ≡ u = omega arith in
          let du : shortest t ∣ s + (u - s) = rw v (rw (x, even_shortest) at e) in
          let z = le_of_dvd (omega arith) ((dvd-add_iff_right (shortest t) d).1 du) in
          omega arith;
    }))

    pub even_start : (k : ℕ) → k * shortest t ≡ start t k
    unfolding start
    even_start zero = zero-mul (shortest t)
    even_start (suc k) =
        let e = even_start k in
        omega (arith, even_next (start t k) (rw e at (dvd-mul_left (shortest t) k)), e)

    pub even_end : (k : ℕ) → start t k + shortest t ≡ end t k
    even_end k = omega (arith, even_start k, even_start (k + 1), end_next k)

    pub even_whole : hyperperiod t / shortest t ≡ intervals t
    even_whole =
        let e : intervals t * shortest t ≡ hyperperiod t = even_start (intervals t) ∙ start_last in
        ap (λ (h : ℕ). h / shortest t) (sym e) ∙ mul-div_cancel (intervals t) shortest_positive

  -- ---- equal periods: one interval, as long as the period

  module _ (eq : T (equal_periods t)) where
    pub equal_period : (i : ℕ) → i < t.rows → t.period i ≡ t.period 0
    unfolding equal_periods
    equal_period i l = eqb→eq (t.period i) (t.period 0) (every_at t.rows (λ i. eqb (t.period i) (t.period 0)) eq i l)

    pub equal_hyperperiod : hyperperiod t ≡ t.period 0
    unfolding hyperperiod
    equal_hyperperiod = lcm_same t.rows t.period (t.period 0) S.rows_low (period_positive 0 S.rows_low) equal_period

    pub equal_shortest : shortest t ≡ t.period 0
    equal_shortest =
        let r = shortest_gcd.some in
        pair_gcd_only (rw (equal_period r.0 r.2, equal_period r.1 r.3) at r.4) (pair_gcd_self (t.period 0))

    pub equal_intervals : intervals t ≡ 1
    equal_intervals =
        let one : intervals t ≤ 1 =
        ⊎_elim (λ l. l)
        (λ l. absurd (omega (
          arith,
          start_strict 1 (intervals t) l (le_refl (intervals t)),
          start_last,
          end_next 0,
          end_far 0 intervals_positive,
          equal_shortest,
          equal_hyperperiod,
        )))
        (le_or_lt (intervals t) 1) in
        omega (arith, intervals_positive)
