-- The file of a live table's rows is a table that passes 1 to 9, 18 and 11.
use mathlib.Core.Path.{◌≡◌, refl, sym, ap, subst, ◌∙◌}
use mathlib.Core.Logic.{inl, inr, ⊎_elim}
use mathlib.Core.Bool.{Bool, ◌&&◌}
use mathlib.Core.List.{List}
use Prim.Native.Nat.{ℕ, zero, suc, ◌≤◌, ◌<◌, ◌∣◌, max}
use native.Mathlib.Nat.{le_of_dvd, not-suc-le-zero}
use native.Mathlib.Omega.{arith}
use lib.Dec.{T, eqb, ltb→lt}
use lib.ListN.{length}
use Rattle.numbers.specs.Finite.{sum, count}
use Rattle.numbers.specs.Divisors.{lcm}
use Rattle.numbers.proofs.Truth.{fst, decide, le_or_lt, is_true, is_false}
use Rattle.numbers.proofs.Finite.{least, only_true, only_false, count_mono}
use Rattle.numbers.proofs.Divisors.{Positive, lcm_divides, lcm_multiple}
use Rattle.rules.specs.Bounds.{max_rows, max_slots}
use Rattle.rules.specs.Bus.{Labelled, pasted}
use Rattle.rules.specs.TableFile.{table_mark, rings_of, file_table, memory_labelled, numbers, bytes}
use Rattle.rules.specs.Loads.{hyperperiod}
use Rattle.rules.specs.Refusals.{Answers, pasted_row, file_checks, pasted_checks, given_checks, version_checks}
use Rattle.rules.specs.Live.{Live, InOrder, held, place_of, common_of, common, present, rows_file_checks}
use Rattle.rules.proofs.Answers.{None, Numbered, answered, none_join, single_none}
use Rattle.rules.proofs.Calls.{call_none}
use Rattle.round_trip.proofs.RoundTrip.{bytes_alike, memory_back, writer_numbered, written_none, written_back, written_passes}
use Rattle.live.proofs.Sums.{one_positive}
use Rattle.live.proofs.Kept.{pasted_by, of_three}
use Rattle.live.proofs.Order.{common_positive}
use Rattle.live.specs.FilePromises.{RowsAreGiven}
use Rattle.live.proofs.Present.{place_of_count, present_told}

-- ---- the place of a row

module _ (h : ℕ → Bool) where
  -- one of the numbers below n that have h has j of them before it
  nth : (n j : ℕ) → j < count n h → (i : ℕ) × (i < n) × T (h i) × (count i h ≡ j)
  unfolding sum
  nth zero j l = absurd (not-suc-le-zero l)
  nth (suc n) j l =
      ⊎_elim
      (λ (m : j < count n h). let z = nth n j m in (z.0, omega (arith, z.1), z.2, z.3))
      (λ (m : count n h ≤ j).
      ⊎_elim
      (λ (t : T (h n)). (n, omega arith, t, omega (arith, only_true (h n) 1 (is_true (h n) t))))
      (λ f. absurd (let z : ⊥ = omega (arith, only_false (h n) 1 (is_false (h n) f)) in z))
      (decide (h n)))
      (⊎_elim (λ m. inr m) (λ m. inl m) (le_or_lt (count n h) j))

  pub record Stands (j : ℕ) : Type 0 where
    pub within : place_of h j < max_rows
    pub holds : T (h (place_of h j))
    pub before : count (place_of h j) h ≡ j

  pub stands : (j : ℕ) → j < count max_rows h → Stands j
  stands j l =
      let z = nth max_rows j l in
      let e : place_of h j ≡ z.0 = ap (place_of h) (sym z.3) ∙ place_of_count h z.0 z.1 z.2 in
      record { within = rw e z.1; holds = rw e z.2; before = ap (λ (i : ℕ). count i h) e ∙ z.3 }

  -- rows stand in the order of their places
  pub in_turn : (j k : ℕ) → k < j → Stands j → Stands k → place_of h k < place_of h j
  in_turn j k l S R =
      ⊎_elim
      (λ (m : place_of h j ≤ place_of h k). absurd (let z : ⊥ = omega (
        arith,
        count_mono (place_of h j) (place_of h k) h m,
        S.before,
        R.before,
      ) in z))
      (λ m. m) (le_or_lt (place_of h j) (place_of h k))

-- ---- the rows present

module _ (l : Live) (O : InOrder l) where
  abbrev t : Labelled
  t = present l

  -- no row is there twice
  apart : (j k : ℕ) → j < t.table.rows → k < j → t.table.first k ≡ t.table.first j → t.table.second k ≡ t.table.second j
      → t.table.period k ≡ t.table.period j → ⊥
  apart j k m n f s p =
      let S = stands (held l) j m in
      let R = stands (held l) k (omega arith) in
      O.rows.single (place_of (held l) j) S.within S.holds
      (pasted_by l (in_turn (held l) j k n S R) f s p)

  period_low : (j : ℕ) → j < t.table.rows → 0 < t.table.period j
  period_low j m = ltb→lt 0 (t.table.period j) (stands (held l) j m).holds

  period_divides : (j : ℕ) → j < t.table.rows → t.table.period j ∣ common l
  unfolding common_of
  period_divides j m =
      let z : max 1 (t.table.period j) ∣ lcm max_rows (λ i. max 1 (l.period i)) =
      lcm_multiple max_rows (λ i. max 1 (l.period i)) (one_positive l.period) (place_of (held l) j) (stands (held l) j m).within in
      let e : max 1 (t.table.period j) ≡ t.table.period j = omega (arith, period_low j m) in
      rw e at z

-- ---- the file

module _ (v : ℕ) (l : Live) (O : InOrder l) where
  abbrev M : ℕ
  M = (present l).table.elements

  abbrev n : ℕ
  n = (present l).table.rows

  abbrev xs : List ℕ
  xs = numbers (present l)

  abbrev s : Labelled
  s = memory_labelled M n xs

  abbrev f : List ℕ
  f = bytes v s

  module _ (a : None (version_checks 1 v M n xs)) where
    few : (file_table f).rows ≡ n
    few = (written_back 1 v M n xs (inl refl) a).rows

    first_is : (j : ℕ) → j < n → (file_table f).first j ≡ (present l).table.first j
    first_is j m = (written_back 1 v M n xs (inl refl) a).first j m ∙ (memory_back (present l) (present_told l)).first j m

    second_is : (j : ℕ) → j < n → (file_table f).second j ≡ (present l).table.second j
    second_is j m = (written_back 1 v M n xs (inl refl) a).second j m ∙ (memory_back (present l) (present_told l)).second j m

    period_is : (j : ℕ) → j < n → (file_table f).period j ≡ (present l).table.period j
    period_is j m = (written_back 1 v M n xs (inl refl) a).period j m ∙ (memory_back (present l) (present_told l)).period j m

    unpasted : (j : ℕ) → j < (file_table f).rows → T (pasted (file_table f) j) → ⊥
    unfolding pasted
    unpasted j m p =
        let k = least j _ p in
        let i : j < n = omega (arith, few) in
        let h : k.0 < n = omega (arith, k.1) in
        let same = eqb ((file_table f).first k.0) ((file_table f).first j) && eqb ((file_table f).second k.0) ((file_table f).second j)
        && eqb ((file_table f).period k.0) ((file_table f).period j) in
        let e = of_three (fst same (eqb ((file_table f).way k.0) ((file_table f).way j)) k.2) in
        apart l O j k.0 i k.1 (sym (first_is k.0 h) ∙ e.0 ∙ first_is j i) (sym (second_is k.0 h) ∙ e.1 ∙ second_is j i)
        (sym (period_is k.0 h) ∙ e.2 ∙ period_is j i)

    given : Answers (given_checks f) 0 0
    unfolding given_checks pasted_checks
    given =
        answered (given_checks f)
        (none_join (file_checks f) _ (written_passes 1 v M n xs (inl refl) a)
        (single_none (pasted_row (file_table f)) (file_table f).rows unpasted))

    short : hyperperiod (file_table f) ≤ max_slots
    unfolding hyperperiod
    short =
        let low : Positive (file_table f).rows (file_table f).period =
        λ j m. let i : j < n = omega (arith, few) in omega (arith, period_is j i, period_low l O j i) in
        let d = lcm_divides (file_table f).rows (file_table f).period low (common l)
        (λ j m. let i : j < n = omega (arith, few) in rw (period_is j i) (period_divides l O j i)) in
        omega (arith, le_of_dvd (common_positive l.period) d, O.denominator, O.short)

pub rows_are_given : RowsAreGiven
unfolding Numbered None rings_of
rows_are_given v l was now place O c =
    let t : Labelled = present l in
    let none : None (rows_file_checks v l (length was)) =
    call_none {p = place} (omega arith, writer_numbered table_mark v t.table.elements t.table.rows (numbers t) (length was)) c in
    let a = (written_none table_mark v t.table.elements t.table.rows (numbers t) (length was) none.1).1 in
    subst (λ (f : List ℕ). Answers (given_checks f) 0 0 × (hyperperiod (file_table f) ≤ max_slots))
    (bytes_alike v (memory_back t (present_told l)))
    (given v l O a, short v l O a)
