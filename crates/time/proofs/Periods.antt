-- The hyperperiod, the leading periods and the interval of a table, found row by row from its periods.
--
--   Rising n p i h     h is the least common multiple of the first i of n periods p, and no more than 4096
--   Keeping n p i m ks the first m of ks are the leading ones of the first i of n periods
--   Clocking n p i h m ks ms
--                      h, the m leading ones in ks and those met in ms are of the first i of n periods
--   Met p i ms         each of ms is 0 or one of the first i periods
use mathlib.Core.Path.{◌≡◌, refl, sym, ap, ◌∙◌}
use mathlib.Core.Logic.{◌⊎◌, inl, inr, ◌≢◌, ⊎_elim}
use mathlib.Core.Bool.{Bool, true, false, not}
use mathlib.Core.List.{List, [], ◌∷◌, ◌++◌}
use Prim.Native.Nat.{ℕ, ◌+◌, ◌≤◌, ◌<◌, ◌∣◌, min}
use native.Mathlib.Nat.{eq-or-lt_of_le, le_of_dvd, dvd_refl, one-dvd}
use native.Mathlib.Decide.{ℕ_discrete}
use native.Mathlib.Omega.{arith}
use lib.Dec.{T}
use lib.ListN.{length, drop, set, replicate, length-set, length-replicate, get_or-append}
use lib.Seq.{get_or-set_same, get_or-set_other}
use Rattle.numbers.specs.Finite.{any}
use Rattle.numbers.specs.Lists.{at}
use Rattle.numbers.specs.Divisors.{divides, lcm, leading, Leads}
use Rattle.numbers.specs.Pairs.{IsGcd, IsLcm, LeastGcd}
use Rattle.numbers.proofs.Truth.{is_true, le_or_lt}
use Rattle.numbers.proofs.Finite.{any_of, any_none, Sought}
use Rattle.numbers.proofs.Lists.{Filled, filled_start, filled_put, zeros_at}
use Rattle.numbers.proofs.Pairs.{pair_gcd, pair_gcd_self, pair_gcd_only}
use Rattle.numbers.proofs.Divisors.{Positive, lcm_none, lcm_next, lcm_multiple, lcm_positive, lcm_grows, of_dvd}
use Rattle.numbers.proofs.Divisors.{leads_any, leads_same, leading_none, leading_kept, leading_new, leading_leads, leading_few}
use Rattle.numbers.proofs.Divisors.{least_gcd_only, least_gcd_led}
use Rattle.rules.specs.Bounds.{max_rows, max_slots}
use Rattle.rules.specs.Bus.{Table}
use Rattle.rules.specs.Loads.{hyperperiod}
use Rattle.rules.specs.Calls.{lent}
use Rattle.table.specs.Sound.{Sound}
use Rattle.lags.proofs.Intervals.{hyperperiod_positive, shortest_gcd}
use Rattle.time.specs.declared.Time.{Time}
use Rattle.time.specs.Time.{Periods, Capped, Leading, Nearing, Clocks, no_time, Timed}

pub record Rising (n : ℕ) (p : ℕ → ℕ) (i h : ℕ) : Type 0 where
  pub rows : i ≤ n
  pub low : 1 ≤ h
  pub high : h ≤ max_slots
  pub is : lcm i p ≡ h

pub record Keeping (n : ℕ) (p : ℕ → ℕ) (i m : ℕ) (ks : List ℕ) : Type 0 where
  pub rows : i ≤ n
  pub filled : Filled (replicate max_rows 0) ks m (leading i p)

pub record Met (p : ℕ → ℕ) (i : ℕ) (ms : List ℕ) : Type 0 where
  pub earlier : (s : ℕ) → (at ms s ≡ 0) ⊎ ((j : ℕ) × (j < i) × (p j ≡ at ms s))

pub periods_of : {t : Table} → Sound t → Periods t.rows t.period
periods_of s = record {
  some = s.rows_low;
  few = s.rows_high;
  low = λ i l. (s.row i l).period_low;
  high = λ i l. (s.row i l).period_high;
}

-- ---- a period that is a divisor already, and the first

pub lcm_kept : {h p : ℕ} → p ∣ h → IsLcm h p h
lcm_kept {h} d = record { left = dvd_refl h; right = d; least = λ n a b. a }

pub lcm_first : (p : ℕ) → IsLcm 1 p p
lcm_first p = record { left = one-dvd p; right = dvd_refl p; least = λ n a b. b }

-- ---- the periods met

pub met_start : {p : ℕ → ℕ} → Met p 0 (replicate max_rows 0)
met_start = record { earlier = λ s. inl (zeros_at max_rows s) }

module _ {p : ℕ → ℕ} {i : ℕ} {ms : List ℕ} (M : Met p i ms) where
  pub met_next : Met p (i + 1) ms
  met_next = record { earlier = λ s. ⊎_elim (λ e. inl e) (λ w. inr (w.0, omega (arith, w.1), w.2)) (M.earlier s) }

  pub met_put : (s : ℕ) → s < length ms → Met p (i + 1) (set ms s (p i))
  met_put s l = record { earlier = λ r. go r (ℕ_discrete r s) }
    where
      go : (r : ℕ) → Dec (r ≡ s) → (at (set ms s (p i)) r ≡ 0) ⊎ ((j : ℕ) × (j < i + 1) × (p j ≡ at (set ms s (p i)) r))
      go r (yes e) = inr (i, omega arith, rw e (sym (get_or-set_same ms s (p i) 0 l)))
      go r (no d) = rw (get_or-set_other ms s r (p i) 0 d) (met_next.earlier r)

  pub met_again : (s : ℕ) → at ms s ≡ p i → 0 < p i → (j : ℕ) × (j < i) × (p j ≡ p i)
  met_again s e l = ⊎_elim (λ z. absurd (omega arith)) (λ w. (w.0, w.1, w.2 ∙ e)) (M.earlier s)

-- ---- the hyperperiod

module _ {n : ℕ} {p : ℕ → ℕ} where
  positive : Periods n p → (k : ℕ) → k ≤ n → Positive k p
  positive P k l i h = P.low i (omega arith)

  pub rising_start : Rising n p 0 1
  rising_start = record { rows = omega arith; low = omega arith; high = omega arith; is = lcm_none p }

  module _ (P : Periods n p) {i h m : ℕ} (R : Rising n p i h) (l : i < n) (M : IsLcm h (p i) m) where
    rising_is : lcm (i + 1) p ≡ m
    rising_is = lcm_next i p (positive P (i + 1) (omega arith)) m (rw R.is M)

    pub rising_next : m ≤ max_slots → Rising n p (i + 1) m
    rising_next k = record {
      rows = omega arith;
      low = omega (arith, rising_is, lcm_positive (i + 1) p (positive P (i + 1) (omega arith)));
      high = k;
      is = rising_is;
    }

    -- the rows after row i can't bring it down again
    pub rising_over : max_slots < m → max_slots < lcm n p
    rising_over k = omega (arith, rising_is, lcm_grows (i + 1) n p (positive P n (omega arith)) (omega arith))

  pub rising_end : {i h : ℕ} → Rising n p i h → n ≤ i → lcm n p ≡ h
  rising_end {i} {h} R l =
      let rows = R.rows in
      let e : i ≡ n = omega arith in
      rw e at R.is

pub capped_some : {h r : ℕ} → Capped h r → r ≢ 0 → (r ≡ h) × (r ≤ max_slots)
capped_some {h} {r} C z =
    ⊎_elim (λ (l : h ≤ max_slots). (C.short l, omega (arith, C.short l))) (λ l. absurd (z (C.long l))) (le_or_lt h max_slots)

pub capped_none : {h r : ℕ} → Capped h r → r ≡ 0 → 0 < h → max_slots < h
capped_none {h} {r} C z p = ⊎_elim (λ (l : h ≤ max_slots). absurd (omega (arith, C.short l))) (λ l. l) (le_or_lt h max_slots)

-- ---- the leading periods

-- whether none of n numbers has p, where one has, and where none was found
module _ (n : ℕ) (p : ℕ → Bool) where
  pub some_has : (i : ℕ) → i < n → T (p i) → false ≡ not (any n p)
  some_has i l h = sym (ap not (is_true (any n p) (any_of n p i l h)))

  pub none_has : {i : ℕ} → Sought n p i → n ≤ i → true ≡ not (any n p)
  none_has S l = sym (ap not (any_none n p (λ j m. S.none j (omega arith))))

-- m numbers that lead n periods are periods themselves
pub periods_led : {n m : ℕ} {p f : ℕ → ℕ} → Periods n p → Leads n p m f → m ≤ max_rows → Periods m f
periods_led {n} {m} {p} {f} P L few = record {
  some = let r = L.under 0 P.some in omega (arith, r.1);
  few = few;
  low = λ k l. let r = L.among k l in omega (arith, r.2, P.low r.0 r.1);
  high = λ k l. let r = L.among k l in omega (arith, r.2, P.high r.0 r.1);
}

module _ {n : ℕ} {p : ℕ → ℕ} {m : ℕ} {ks : List ℕ} (L : Leading n p m ks) where
  leading_at : (k : ℕ) → k < m → at ks k ≡ at (leading n p) k
  unfolding lent
  leading_at k l =
      ap (λ (xs : List ℕ). at xs k) L.holds
      ∙ get_or-append (leading n p) (drop (length (leading n p)) (replicate max_rows 0)) 0 k (omega (arith, L.count))

  pub leading_is : Leads n p m (at ks)
  leading_is = leads_same (rw L.count at (leading_leads n p)) leading_at

  pub leading_periods : Periods n p → Periods m (at ks)
  leading_periods P = periods_led P leading_is (let few = P.few in omega (arith, L.count, leading_few n p))

  pub leading_only : {k : ℕ} {vs : List ℕ} → Leading n p k vs → (m ≡ k) × (ks ≡ vs)
  leading_only K = (sym L.count ∙ K.count, L.holds ∙ sym K.holds)

module _ {n : ℕ} {p : ℕ → ℕ} (P : Periods n p) where
  pub keeping_start : Keeping n p 0 0 (replicate max_rows 0)
  keeping_start = record { rows = omega arith; filled = rw (leading_none p) (filled_start (replicate max_rows 0)) }

  module _ {i m : ℕ} {ks : List ℕ} (K : Keeping n p i m ks) where
    keeping_leads : Leads i p m (at ks)
    keeping_leads =
        leads_same (rw K.filled.count at (leading_leads i p))
        (λ k l. ap (λ (xs : List ℕ). at xs k) K.filled.holds
        ∙ get_or-append (leading i p) (drop m (replicate max_rows 0)) 0 k (let c = K.filled.count in omega arith))

    pub keeping_low : (k : ℕ) → k < m → 0 < at ks k
    keeping_low k l =
        let r = keeping_leads.among k l in
        let rows = K.rows in
        omega (arith, r.2, P.low r.0 (omega (arith, r.1)))

    pub keeping_room : m ≤ max_rows
    keeping_room = let c = K.filled.count in let few = P.few in let rows = K.rows in omega (arith, leading_few i p)

    module _ (l : i < n) where
      -- a period that is a multiple of one that leads
      pub keeping_kept : any m (λ k. divides (at ks k) (p i)) ≡ true → Keeping n p (i + 1) m ks
      keeping_kept e = record {
        rows = omega arith;
        filled = rw (leading_kept i p (sym (leads_any keeping_leads (p i)) ∙ e)) K.filled;
      }

      -- one that was met before is a multiple of itself
      pub keeping_again : (j : ℕ) → j < i → p j ≡ p i → Keeping n p (i + 1) m ks
      keeping_again j h e =
          let same : any i (λ k. divides (p k) (p i)) ≡ true =
          is_true _ (any_of i (λ k. divides (p k) (p i)) j h (of_dvd (p j) (p i) (rw e (dvd_refl (p i))))) in
          keeping_kept (leads_any keeping_leads (p i) ∙ same)

      pub keeping_space : m < max_rows
      keeping_space = let c = K.filled.count in let few = P.few in omega (arith, leading_few i p)

      -- and one that is not
      pub keeping_new : any m (λ k. divides (at ks k) (p i)) ≡ false → Keeping n p (i + 1) (m + 1) (set ks m (p i))
      keeping_new e =
          let zeros : List ℕ = replicate max_rows 0 in
          let nought : ℕ = 0 in
          let size : length zeros ≡ max_rows = length-replicate max_rows nought in
          let room : m < length zeros = omega (arith, keeping_space) in
          let F : Filled (replicate max_rows 0) (set ks m (p i)) (m + 1) (leading i p ++ (p i ∷ [])) = filled_put (p i) K.filled room in
          record { rows = omega arith; filled = rw (leading_new i p (sym (leads_any keeping_leads (p i)) ∙ e)) F }

pub keeping_end : {n : ℕ} {p : ℕ → ℕ} {i m : ℕ} {ks : List ℕ} → Keeping n p i m ks → n ≤ i → Leading n p m ks
unfolding lent
keeping_end {n} {p} {i} {m} {ks} K l =
    let rows = K.rows in
    let e : i ≡ n = omega arith in
    let F : Filled (replicate max_rows 0) ks m (leading n p) = rw e at K.filled in
    record { count = F.count; holds = rw F.count F.holds }

-- ---- both, row by row

pub record Clocking (n : ℕ) (p : ℕ → ℕ) (i h m : ℕ) (ks ms : List ℕ) : Type 0 where
  pub rising : Rising n p i h
  pub keeping : Keeping n p i m ks
  pub met : Met p i ms
  pub places : length ms ≡ max_rows

module _ {n : ℕ} {p : ℕ → ℕ} (P : Periods n p) where
  pub clocking_start : Clocking n p 0 1 0 (replicate max_rows 0) (replicate max_rows 0)
  clocking_start = record {
    rising = rising_start;
    keeping = keeping_start P;
    met = met_start;
    places = length-replicate {A = ℕ} max_rows 0;
  }

  module _ {i h m : ℕ} {ks ms : List ℕ} (C : Clocking n p i h m ks ms) (l : i < n) where
    -- a period that was met
    pub clocking_again : (s : ℕ) → at ms s ≡ p i → Clocking n p (i + 1) h m ks ms
    clocking_again s e =
        let w = met_again C.met s e (P.low i l) in
        let d : p i ∣ h = rw (← w.2, ← C.rising.is) (lcm_multiple i p (positive P i C.rising.rows) w.0 w.1) in
        record {
          rising = rising_next P C.rising l (lcm_kept d) C.rising.high;
          keeping = keeping_again P C.keeping l w.0 w.1 w.2;
          met = met_next C.met;
          places = C.places;
        }

    -- a new one, which leads or does not
    module _ (s : ℕ) (f : s < max_rows) {r : ℕ} (L : IsLcm h (p i) r) (k : r ≤ max_slots) where
      new : {x : ℕ} {ys : List ℕ} → Keeping n p (i + 1) x ys → Clocking n p (i + 1) r x ys (set ms s (p i))
      new K = record {
        rising = rising_next P C.rising l L k;
        keeping = K;
        met = met_put C.met s (omega (arith, C.places));
        places = length-set ms s (p i) ∙ C.places;
      }

      pub clocking_kept : any m (λ k. divides (at ks k) (p i)) ≡ true → Clocking n p (i + 1) r m ks (set ms s (p i))
      clocking_kept e = new (keeping_kept P C.keeping l e)

      pub clocking_new : any m (λ k. divides (at ks k) (p i)) ≡ false
          → Clocking n p (i + 1) r (m + 1) (set ks m (p i)) (set ms s (p i))
      clocking_new e = new (keeping_new P C.keeping l e)

-- past a long hyperperiod, and past the last row

pub clocks_none : {n : ℕ} {p : ℕ → ℕ} → max_slots < lcm n p → Clocks n p no_time
clocks_none l = record { short = λ a. absurd (omega arith); long = λ a. refl }

pub clocks_end : {n : ℕ} {p : ℕ → ℕ} {i h m l : ℕ} {ks ms : List ℕ} → Periods n p → Clocking n p i h m ks ms → n ≤ i → LeastGcd m (at ks) l
    → Clocks n p (record { hyper = h; interval = l; count = m; period = ks })
clocks_end P C k G =
    let e = rising_end C.rising k in
    let K = keeping_end C.keeping k in
    record {
      short = λ a. record { hyper = sym e; interval = least_gcd_led (λ i l. P.low i l) (leading_is K) G; leads = K };
      long = λ a. absurd (let high = C.rising.high in omega (arith, e));
    }

pub clocks_capped : {n : ℕ} {p : ℕ → ℕ} {c : Time} → Clocks n p c → Capped (lcm n p) c.hyper
clocks_capped C = record { short = λ l. (C.short l).hyper; long = λ l. ap (λ (t : Time). t.hyper) (C.long l) }

-- so a table's time is found, or its hyperperiod is long
module _ {t : Table} {c : Time} (s : Sound t) (C : Clocks t.rows t.period c) where
  pub clocks_timed : c.hyper ≢ 0 → Timed t c
  unfolding hyperperiod
  clocks_timed z =
      let h = capped_some (clocks_capped C) z in
      let T = C.short (omega (arith, h)) in
      record {
        sound = s;
        short = omega (arith, h);
        hyper = h.0;
        interval = least_gcd_only T.interval (shortest_gcd s);
        leads = T.leads;
      }

  pub clocks_long : c.hyper ≡ 0 → max_slots < hyperperiod t
  unfolding hyperperiod
  clocks_long z = capped_none (clocks_capped C) z (hyperperiod_positive s)

-- ---- the interval

module _ {n : ℕ} {p : ℕ → ℕ} (P : Periods n p) where
  pub nearing_start : Nearing n p 1 0 (p 0)
  nearing_start = record {
    first = omega arith;
    some = (0, 0, P.some, P.some, pair_gcd_self (p 0));
    before = λ a b d l h D.
        let x : a ≡ 0 = omega arith in
        let y : b ≡ 0 = omega arith in
        omega (arith, pair_gcd_only (rw (x, y) at D) (pair_gcd_self (p 0)));
    here = λ b d l D. absurd (omega arith);
  }

  module _ {i j l : ℕ} (N : Nearing n p i j l) (h : i < n) where
    pub nearing_next : {d : ℕ} → j < i → IsGcd (p i) (p j) d → Nearing n p i (j + 1) (min l d)
    nearing_next {d} k D = record {
      first = N.first;
      some = ⊎_elim
          (λ (a : l ≤ d). let e : min l d ≡ l = omega arith in rw e N.some)
          (λ (a : d < l). let e : min l d ≡ d = omega arith in rw e (i, j, h, omega arith, D))
          (le_or_lt l d);
      before = λ a b e x y E. omega (arith, N.before a b e x y E);
      here = λ b e x E. ⊎_elim
          (λ (q : b ≡ j). omega (arith, pair_gcd_only (rw q at E) D))
          (λ (q : b < j). omega (arith, N.here b e q E))
          (eq-or-lt_of_le (let z : b ≤ j = omega arith in z));
    }

    -- with itself a period has no less than with the first
    pub nearing_row : i ≤ j → Nearing n p (i + 1) 0 l
    nearing_row q =
        let w = pair_gcd (p i) (p 0) in
        let own : l ≤ p i =
        omega (arith, N.here 0 w.0 (let k = N.first in omega arith) w.1, le_of_dvd (P.low i h) w.1.left) in
        record {
          first = omega arith;
          some = N.some;
          before = λ a b d x y D. ⊎_elim
              (λ (e : a ≡ i). ⊎_elim
              (λ (f : b ≡ a).
              omega (arith, own, pair_gcd_only (rw (f, e) at D) (pair_gcd_self (p i))))
              (λ (f : b < a). N.here b d (omega arith) (rw e at D))
              (eq-or-lt_of_le y))
              (λ (e : a < i). N.before a b d e y D)
              (eq-or-lt_of_le (let z : a ≤ i = omega arith in z));
          here = λ b d x D. absurd (omega arith);
        }

-- ---- only one time fits

pub time_only : {t : Table} {c d : Time} → Timed t c → Timed t d → c ≡ d
time_only C D =
    let e = leading_only C.leads D.leads in
    λ k. record {
      hyper = (C.hyper ∙ sym D.hyper) k;
      interval = (C.interval ∙ sym D.interval) k;
      count = e.0 k;
      period = e.1 k;
    }
