-- The denominator and the sums of a live table, worked out from its places.
--
--   SummedTo g n xs    the array xs holds g of the first n segments, and 0 past them
use mathlib.Core.Path.{◌≡◌, refl, sym, ap, ap₂, ◌∙◌, fun_ext}
use mathlib.Core.Logic.{⊎_elim, ◌≢◌}
use mathlib.Core.Bool.{Bool, true, false, ◌&&◌}
use mathlib.Core.List.{List}
use Prim.Native.Nat.{ℕ, suc, ◌+◌, ◌*◌, ◌/◌, ◌%◌, ◌^◌, ◌≤◌, ◌<◌, max}
use native.Mathlib.Nat.{not-suc-le-zero, le_trans, mul-le-mul_left, div-mul-le_self}
use native.Mathlib.Omega.{arith}
use lib.Dec.{eqb, ltb, lt→ltb, ltb→lt}
use lib.ListN.{length, set, replicate, length-set, length-replicate}
use lib.Seq.{get_or-set_same, get_or-set_other}
use Rattle.numbers.specs.Finite.{sum}
use Rattle.numbers.specs.Lists.{at}
use Rattle.numbers.specs.Word.{bit}
use Rattle.numbers.specs.Divisors.{lcm}
use Rattle.numbers.proofs.Truth.{is_true, is_false, le_or_lt, eqb_of}
use Rattle.numbers.proofs.Finite.{below, only_true, only_false, sum_next}
use Rattle.numbers.proofs.Lists.{zeros_at}
use Rattle.numbers.proofs.Word.{bit_shr, bit_word}
use Rattle.numbers.proofs.Divisors.{Positive, lcm_of_least, lcm_as_least}
use Rattle.rules.specs.Bounds.{max_elements, max_rows, max_slots}
use Rattle.rules.specs.Bus.{Table, Labelled, clockwise, uses, route_uses}
use Rattle.rules.specs.Live.{Live, places, common_of, sum_over}
use Rattle.table.specs.declared.Row.{Row}
use Rattle.table.specs.Rows.{IsRow, single}
use Rattle.table.specs.Sound.{SoundRow}
use Rattle.table.specs.Columns.{ByRow, HasRow}
use Rattle.ring.specs.Route.{segments}
use Rattle.ring.proofs.Mirror.{clockwise_uses}
use Rattle.time.specs.Time.{Periods, Capped}
use Rattle.live.specs.Tally.{column_places, segment_load}

-- ---- the denominator

pub lcm_eq : (n : ℕ) (g h : ℕ → ℕ) → Positive n h → ((i : ℕ) → i < n → g i ≡ h i) → lcm n g ≡ lcm n h
lcm_eq n g h pos e =
    let L = lcm_as_least n h pos in
    lcm_of_least n g (λ i l. rw (e i l) (pos i l)) (lcm n h) (record {
      multiple = λ i l. rw (e i l) (L.multiple i l);
      least = λ k M. L.least k (λ i l. rw (← e i l) (M i l));
    })

pub one_positive : (p : ℕ → ℕ) → Positive max_rows (λ i. max 1 (p i))
one_positive p i l = omega arith

pub counted_periods : (p : ℕ → ℕ) (xs : List ℕ) → ((i : ℕ) → i < max_rows → p i ≤ max_slots)
    → ByRow max_rows (λ i. max 1 (p i)) xs → Periods max_rows (at xs)
counted_periods p xs h B = record {
  some = omega arith;
  few = omega arith;
  low = λ i l. omega (arith, B.row i l);
  high = λ i l. omega (arith, B.row i l, h i l);
}

pub counted_common : (p : ℕ → ℕ) (xs : List ℕ) {r : ℕ} → ByRow max_rows (λ i. max 1 (p i)) xs
    → Capped (lcm max_rows (at xs)) r → Capped (common_of p) r
unfolding common_of
counted_common p xs {r} B C = rw (lcm_eq max_rows (at xs) (λ i. max 1 (p i)) (one_positive p) B.row) at C

-- ---- what one row adds

-- bit s of the word of a route's segments
pub segment_bit : (M a b s : ℕ) → s < M → bit (segments M a b) s ≡ route_uses M a b (suc s)
unfolding segments
segment_bit M a b s l = bit_word M _ s ∙ ap (λ (c : Bool). c && route_uses M a b (suc s)) (is_true (ltb s M) (lt→ltb s M l))

module _ (d : ℕ) (t : Table) (s : ℕ) where
  pub free_adds : t.period 0 ≡ 0 → 0 ≡ segment_load d t s 0
  free_adds e =
      sym (only_false _ _ (ap (λ (b : Bool). b && uses t 0 (suc s)) (is_false (ltb 0 (t.period 0)) (λ h. omega (
        arith,
        ltb→lt 0 (t.period 0) h,
      )))))

  module _ (l : s < t.elements) (c : t.way 0 ≡ clockwise) (w : ℕ) (e : w ≡ segments t.elements (t.first 0) (t.second 0)) where
    used : uses t 0 (suc s) ≡ eqb (w / 2 ^ s % 2) 1
    unfolding uses
    used =
        let M = t.elements in
        clockwise_uses M (t.first 0) (t.second 0) (suc s) c
        ∙ sym (bit_shr w s ∙ ap (λ (v : ℕ). bit v s) e ∙ segment_bit M (t.first 0) (t.second 0) s l)

    pub apart_adds : w / 2 ^ s % 2 ≡ 0 → 0 ≡ segment_load d t s 0
    apart_adds z =
        sym (only_false _ _ (and-false (ltb 0 (t.period 0)) _ (used ∙ ap (λ (v : ℕ). eqb v 1) z)))
      where
        and-false : (a b : Bool) → b ≡ false → (a && b) ≡ false
        and-false true b q = q
        and-false false b q = refl

    pub row_adds : 0 < t.period 0 → w / 2 ^ s % 2 ≢ 0 → d / t.period 0 * t.cost 0 ≡ segment_load d t s 0
    row_adds p z =
        sym (only_true _ _
        (ap₂ ◌&&◌ (is_true (ltb 0 (t.period 0)) (lt→ltb 0 (t.period 0) p)) (used ∙ is_true (eqb (w / 2 ^ s % 2) 1) (eqb_of (
        w / 2 ^ s % 2) 1 (omega (arith, z))))))

-- ---- the sum of a segment

pub record Adding (d : ℕ) (t : Table) (s i total : ℕ) : Type 0 where
  pub few : i ≤ max_rows
  pub is : total ≡ sum i (segment_load d t s)
  pub small : total ≤ i * max_slots

module _ {d : ℕ} {t : Table} {s : ℕ} where
  pub adding_start : Adding d t s 0 0
  unfolding sum
  adding_start = record { few = omega arith; is = refl; small = omega arith }

  pub adding_next : {i total : ℕ} (r : ℕ) → Adding d t s i total → i < max_rows → r ≡ segment_load d t s i → r ≤ max_slots
      → Adding d t s (i + 1) (total + r)
  adding_next {i} {total} r A l e h = record {
    few = omega arith;
    is = ap₂ ◌+◌ A.is e ∙ sym (sum_next i (segment_load d t s));
    small = omega (arith, A.small);
  }

-- ---- the sums of all segments

pub record SummedTo (g : ℕ → ℕ) (n : ℕ) (xs : List ℕ) : Type 0 where
  pub few : n ≤ max_elements
  pub size : length xs ≡ max_elements
  pub done : (s : ℕ) → s < n → at xs s ≡ g s
  pub rest : (s : ℕ) → n ≤ s → at xs s ≡ 0

module _ {g : ℕ → ℕ} where
  pub summed_start : SummedTo g 0 (replicate max_elements 0)
  summed_start = record {
    few = omega arith;
    size = length-replicate {A = ℕ} max_elements 0;
    done = λ s l. absurd (not-suc-le-zero l);
    rest = λ s l. zeros_at max_elements s;
  }

  pub summed_next : {n : ℕ} {xs : List ℕ} (v : ℕ) → SummedTo g n xs → n < max_elements → v ≡ g n → SummedTo g (n + 1) (set xs n v)
  summed_next {n} {xs} v L l e = record {
    few = omega arith;
    size = length-set xs n v ∙ L.size;
    done = λ s k.
        ⊎_elim
        (λ (q : s ≡ n). rw q (get_or-set_same xs n v 0 (omega (arith, L.size)) ∙ e))
        (λ (m : s < n). get_or-set_other xs n s v 0 (λ q. omega arith) ∙ L.done s m)
        (below (let z : s < suc n = omega arith in z));
    rest = λ s k. get_or-set_other xs n s v 0 (λ q. omega arith) ∙ L.rest s (omega arith);
  }

-- there are no segments past the last
pub sum_past : (d : ℕ) (l : Live) (s : ℕ) → l.elements ≤ s → sum_over d l s ≡ 0
unfolding sum_over
sum_past d l s h = only_false _ _ (is_false (ltb s l.elements) (λ t. omega (arith, ltb→lt s l.elements t)))

pub summed_end : (d : ℕ) (l : Live) {n : ℕ} {xs : List ℕ} → SummedTo (sum_over d l) n xs → l.elements ≤ n → at xs ≡ sum_over d l
summed_end d l {n} {xs} L h =
    fun_ext (λ s. ⊎_elim (λ k. L.rest s k ∙ sym (sum_past d l s (omega arith))) (L.done s) (le_or_lt n s))

-- ---- rows alone and in a table

-- no row adds more than the denominator
pub adds_little : (d p c : ℕ) → c ≤ p → d / p * c ≤ d
adds_little d p c l = le_trans (mul-le-mul_left (d / p) l) (div-mul-le_self d p)

-- of the one ring
pub place_row : (M : ℕ) (label : ℕ → ℕ) {cost period first second : List ℕ} {i : ℕ} {r : Row}
    → HasRow cost period first second i clockwise (label i) r
    → IsRow (record { table = column_places M cost period first second; label = label }) i r
place_row M label H = record {
  cost = H.cost;
  period = H.period;
  first = H.first;
  second = H.second;
  way = H.way;
  label = H.label;
}

pub row_alone : {t : Labelled} {i : ℕ} {r : Row} → IsRow t i r → SoundRow t.table i
    → SoundRow (single t.table.elements t.table.rings r) 0
row_alone q S = record {
  first_low = rw q.first S.first_low;
  first_high = rw q.first S.first_high;
  second_low = rw q.second S.second_low;
  second_high = rw q.second S.second_high;
  ends_differ = λ e. S.ends_differ (sym q.first ∙ e ∙ q.second);
  period_low = rw q.period S.period_low;
  period_high = rw q.period S.period_high;
  cost_low = rw q.cost S.cost_low;
  cost_high = rw (q.cost, q.period) S.cost_high;
  way_known = rw q.way S.way_known;
}

pub load_alone : (d s : ℕ) {t : Labelled} {i : ℕ} {r : Row} → IsRow t i r
    → segment_load d (single t.table.elements t.table.rings r) s 0 ≡ segment_load d t.table s i
unfolding uses
load_alone d s q = rw (q.cost, q.period, q.first, q.second, q.way) refl

pub adding_end : (d : ℕ) (l : Live) {s i total : ℕ} → Adding d (places l) s i total → max_rows ≤ i → s < l.elements → total ≡ sum_over d l s
unfolding sum_over
adding_end d l {s} {i} {total} A h k =
    let e : i ≡ max_rows = omega (arith, A.few) in
    A.is ∙ ap (λ (n : ℕ). sum n (segment_load d (places l) s)) e ∙ sym (only_true _ _ (is_true (ltb s l.elements) (lt→ltb s _ k)))
