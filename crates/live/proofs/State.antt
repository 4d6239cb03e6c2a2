-- The code's live tables: only one holds what is said of it, and a row put in a place of one.
use mathlib.Core.Path.{◌≡◌, sym, ap, subst, ◌∙◌, fun_ext}
use mathlib.Core.Logic.{◌⊎◌, inl, inr, ⊎_elim}
use mathlib.Core.List.{List}
use Prim.Native.Nat.{ℕ, ◌≤◌, ◌<◌}
use native.Mathlib.Decide.{ℕ_discrete}
use native.Mathlib.Omega.{arith}
use lib.ListN.{length, set, replicate, length-set, length-replicate}
use lib.Seq.{ext_get_or, get_or-set_same, get_or-set_other}
use Rattle.numbers.specs.Lists.{at}
use Rattle.numbers.proofs.Truth.{le_or_lt}
use Rattle.numbers.proofs.Lists.{zeros_at}
use Rattle.rules.specs.Bounds.{max_elements, max_rows, max_slots}
use Rattle.rules.specs.Live as rules
use Rattle.rules.specs.Bus.{Table, clockwise}
use Rattle.rules.specs.Refusals.{Answers, faults}
use Rattle.rules.specs.Live.{Blank, Seated, places, vacant, but, common, common_of, sum_over, placed, put}
use Rattle.time.specs.Time.{Capped}
use Rattle.live.specs.Tally.{column_places, Passing}
use Rattle.live.specs.declared.Live.{Live}
use Rattle.live.specs.declared.Entry.{Entry}
use Rattle.live.specs.Seats.{Zeros}
use Rattle.live.specs.State.{live_of, entry_of, row_of, blank, NewSeat, PutIn}
use Rattle.live.specs.Answers.{Sized}
use Rattle.live.proofs.Kept.{but_same, but_other, passed, put_place}

-- ---- only one

column_same : (xs ys : List ℕ) (n : ℕ) → length xs ≡ n → length ys ≡ n → at xs ≡ at ys → xs ≡ ys
column_same xs ys n a b e = ext_get_or 0 xs ys (a ∙ sym b) (λ i l. ap (λ (g : ℕ → ℕ). g i) e)

pub live_same : (a b : Live) → Sized a → Sized b → live_of a ≡ live_of b → a ≡ b
live_same a b A B e = λ j. record {
  elements = ap (λ (l : rules.Live). l.elements) e j;
  cost = column_same a.cost b.cost max_rows A.cost B.cost (ap (λ (l : rules.Live). l.cost) e) j;
  period = column_same a.period b.period max_rows A.period B.period (ap (λ (l : rules.Live). l.period) e) j;
  first = column_same a.first b.first max_rows A.first B.first (ap (λ (l : rules.Live). l.first) e) j;
  second = column_same a.second b.second max_rows A.second B.second (ap (λ (l : rules.Live). l.second) e) j;
  label = column_same a.label b.label max_rows A.label B.label (ap (λ (l : rules.Live). l.label) e) j;
  denominator = ap (λ (l : rules.Live). l.denominator) e j;
  sums = column_same a.sums b.sums max_elements A.sums B.sums (ap (λ (l : rules.Live). l.sum) e) j;
}

-- ---- no rows

zeros : (n : ℕ) → at (replicate n 0) ≡ (λ i. 0)
zeros n = fun_ext (zeros_at n)

pub blank_sized : (M d : ℕ) → Sized (blank M d)
blank_sized M d = record {
  cost = length-replicate {A = ℕ} max_rows 0;
  period = length-replicate {A = ℕ} max_rows 0;
  first = length-replicate {A = ℕ} max_rows 0;
  second = length-replicate {A = ℕ} max_rows 0;
  label = length-replicate {A = ℕ} max_rows 0;
  sums = length-replicate {A = ℕ} max_elements 0;
}

pub blank_is_lem : (M d : ℕ)
    → live_of (blank M d) ≡ record {
      elements = M;
      cost = λ i. 0;
      period = λ i. 0;
      first = λ i. 0;
      second = λ i. 0;
      label = λ i. 0;
      denominator = d;
      sum = λ s. 0;
    }
blank_is_lem M d = λ j. record {
  elements = M;
  cost = zeros max_rows j;
  period = zeros max_rows j;
  first = zeros max_rows j;
  second = zeros max_rows j;
  label = zeros max_rows j;
  denominator = d;
  sum = zeros max_elements j;
}

-- ---- what the sums count on

pub live_passing : (l : rules.Live) → l.elements ≤ max_elements
    → ((i : ℕ) → i < max_rows → Blank l i ⊎ Answers (faults (places l) i) 0 0) → Passing (places l)
live_passing l e h = record {
  small = e;
  row = λ i k p. ⊎_elim (λ (B : Blank l i). absurd (let z : ⊥ = omega (arith, p, B.period) in z)) (passed (places l) i) (h i k);
}

pub passing_periods : (t : Table) → Passing t → (i : ℕ) → i < max_rows → t.period i ≤ max_slots
passing_periods t P i h =
    ⊎_elim (λ (z : t.period i ≤ 0). omega (arith, z)) (λ p. (P.row i h p).period_high) (le_or_lt (t.period i) 0)

pub capped_small : {h r : ℕ} → Capped h r → r ≤ max_slots
capped_small {h} {r} C =
    ⊎_elim (λ (l : h ≤ max_slots). omega (arith, C.short l, l)) (λ l. omega (arith, C.long l)) (le_or_lt h max_slots)

-- ---- a row put in a place

pub at_set : (xs : List ℕ) (k v : ℕ) → k < length xs → at (set xs k v) ≡ but (at xs) k v
at_set xs k v l = fun_ext (λ i. go i (ℕ_discrete i k))
  where
    go : (i : ℕ) → Dec (i ≡ k) → at (set xs k v) i ≡ but (at xs) k v i
    go i (yes e) = rw e (get_or-set_same xs k v 0 l ∙ sym (but_same (at xs) k v))
    go i (no n) = get_or-set_other xs k i v 0 n ∙ sym (but_other (at xs) k v i n)

-- its ends fit a byte
pub new_seat_fits : (M : ℕ) (row : Entry) → M ≤ max_elements → NewSeat M row → (row.first ≤ max_elements) × (row.second ≤ max_elements)
new_seat_fits M row h N =
    ⊎_elim (λ R. (omega (arith, R.first_high, h), omega (arith, R.second_high, h)))
    (λ z. (omega (arith, z.first), omega (arith, z.second))) N

-- the columns after it
pub put_passing : (l : Live) (k : ℕ) (row : Entry) → Sized l → k < max_rows → Seated (live_of l) → NewSeat l.elements row
    → Passing (column_places l.elements (set l.cost k row.cost) (set l.period k row.period) (set l.first k row.first)
    (set l.second k row.second))
put_passing l k row Z h S N =
    subst Passing
    (λ j. record {
      elements = l.elements;
      rows = max_rows;
      rings = 1;
      cost = sym (at_set l.cost k row.cost (omega (arith, Z.cost))) j;
      period = sym (at_set l.period k row.period (omega (arith, Z.period))) j;
      first = sym (at_set l.first k row.first (omega (arith, Z.first))) j;
      second = sym (at_set l.second k row.second (omega (arith, Z.second))) j;
      way = λ i. clockwise;
    })
    (live_passing (put (live_of l) k (entry_of row)) S.high (put_place S k {e = entry_of row} (⊎_elim (λ R. inr R) (λ z. inl (
    vacant_is z)) N)))
  where
    vacant_is : Zeros (row_of row) → entry_of row ≡ vacant
    vacant_is z = λ j. record { cost = z.cost j; period = z.period j; first = z.first j; second = z.second j; label = z.label j }

module _ {l r : Live} {k : ℕ} {row : Entry} (Z : Sized l) (h : k < max_rows) (P : PutIn l k row r) where
  cost_is : at r.cost ≡ but (at l.cost) k row.cost
  cost_is = ap at P.cost ∙ at_set l.cost k row.cost (omega (arith, Z.cost))

  pub period_is : at r.period ≡ but (at l.period) k row.period
  period_is = ap at P.period ∙ at_set l.period k row.period (omega (arith, Z.period))

  first_is : at r.first ≡ but (at l.first) k row.first
  first_is = ap at P.first ∙ at_set l.first k row.first (omega (arith, Z.first))

  second_is : at r.second ≡ but (at l.second) k row.second
  second_is = ap at P.second ∙ at_set l.second k row.second (omega (arith, Z.second))

  label_is : at r.label ≡ but (at l.label) k row.label
  label_is = ap at P.label ∙ at_set l.label k row.label (omega (arith, Z.label))

  pub put_sized : Sized r
  put_sized = record {
    cost = ap length P.cost ∙ length-set l.cost k row.cost ∙ Z.cost;
    period = ap length P.period ∙ length-set l.period k row.period ∙ Z.period;
    first = ap length P.first ∙ length-set l.first k row.first ∙ Z.first;
    second = ap length P.second ∙ length-set l.second k row.second ∙ Z.second;
    label = ap length P.label ∙ length-set l.label k row.label ∙ Z.label;
    sums = P.size;
  }

  pub put_common : common (live_of r) ≡ common (placed (live_of l) k (entry_of row))
  put_common = ap common_of period_is

  module _ (short : common (placed (live_of l) k (entry_of row)) ≤ max_slots) where
    denominator_is : r.denominator ≡ common (placed (live_of l) k (entry_of row))
    denominator_is = P.denominator.short (omega (arith, put_common)) ∙ put_common

    sum_is : at r.sums ≡ sum_over (common (placed (live_of l) k (entry_of row))) (placed (live_of l) k (entry_of row))
    unfolding sum_over
    sum_is =
        P.sums
        ∙ (λ j. sum_over (denominator_is j) (record {
          elements = P.elements j;
          cost = cost_is j;
          period = period_is j;
          first = first_is j;
          second = second_is j;
          label = label_is j;
          denominator = 0;
          sum = λ s. 0;
        }))

    pub put_is : live_of r ≡ put (live_of l) k (entry_of row)
    put_is = λ j. record {
      elements = P.elements j;
      cost = cost_is j;
      period = period_is j;
      first = first_is j;
      second = second_is j;
      label = label_is j;
      denominator = denominator_is j;
      sum = sum_is j;
    }
