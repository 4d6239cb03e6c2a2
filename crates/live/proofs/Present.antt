-- The rows present of a live table, put one after the other; and what the writer then answers.
--
--   Packing .. was out n i   of the first i places n hold rows, and their numbers stand at the front of out
use mathlib.Core.Path.{◌≡◌, refl, sym, ap, ◌∙◌}
use mathlib.Core.Logic.{◌≢◌}
use mathlib.Core.Bool.{Bool, ◌&&◌}
use mathlib.Core.List.{List, []}
use Prim.Native.Nat.{ℕ, ◌+◌, ◌*◌, ◌≤◌, ◌<◌}
use native.Mathlib.Omega.{arith}
use lib.Dec.{T, eqb, ltb, eqb→eq, ltb→lt, lt→ltb}
use lib.ListN.{length, take}
use lib.Seq.{sets}
use Rattle.numbers.specs.Finite.{sum, count, only}
use Rattle.numbers.specs.Lists.{at, each}
use Rattle.numbers.proofs.Truth.{both, fst, snd, eqb_of, is_true, is_false}
use Rattle.numbers.proofs.Finite.{lowest_is, only_true, only_false, sum_next, count_mono, count_le}
use Rattle.numbers.proofs.Lists.{Filled, filled_start}
use Rattle.numbers.proofs.Codec.{filled_rows, filled_row}
use Rattle.rules.specs.Bounds.{max_rows}
use Rattle.rules.specs.Bus.{clockwise}
use Rattle.rules.specs.TableFile.{table_mark, rings_of, row_numbers, way_in, label_in, last_of, memory_row, numbers}
use Rattle.rules.specs.Calls.{lent, Written}
use Rattle.rules.specs.Live.{Live, InOrder, place_of, present, off_live, Filed}
use Rattle.rules.proofs.Answers.{applied, passed}
use Rattle.rules.proofs.Calls.{lent_take, filled_lent}
use Rattle.table.specs.declared.Row.{Row}
use Rattle.table.specs.Rows.{in_memory}
use Rattle.table.specs.Columns.{HasRow}
use Rattle.reader.proofs.Calls.{memory_row_lem}
use Rattle.round_trip.proofs.RoundTrip.{Told, bytes_alike, memory_back, numbers_length}
use Rattle.live.specs.Present.{present_in, PutPresent}

-- ---- counting the places that hold rows

module _ (h : ℕ → Bool) where
  pub count_held : (i : ℕ) → T (h i) → count (i + 1) h ≡ count i h + 1
  count_held i t = sum_next i (λ j. only (h j) 1) ∙ ap (λ (x : ℕ). count i h + x) (only_true (h i) 1 (is_true (h i) t))

  pub count_free : (i : ℕ) → (T (h i) → ⊥) → count (i + 1) h ≡ count i h
  count_free i n =
      let z = sum_next i (λ j. only (h j) 1) ∙ ap (λ (x : ℕ). count i h + x) (only_false (h i) 1 (is_false (h i) n)) in
      omega (arith, z)

  -- the row in a place has as many rows before it as are in the places before
  pub place_of_count : (i : ℕ) → i < max_rows → T (h i) → place_of h (count i h) ≡ i
  unfolding place_of
  place_of_count i l t =
      lowest_is max_rows (λ k. h k && eqb (count k h) (count i h)) i l (both (h i) _ t (eqb_of (count i h) (count i h) refl))
      (λ j m q.
      let e : count j h ≡ count i h = eqb→eq (count j h) (count i h) (snd (h j) _ q) in
      omega (arith, e, count_held j (fst (h j) _ q), count_mono (j + 1) i h (omega arith)))

-- ---- one place after the other

-- place j holds a row
abbrev holds : List ℕ → ℕ → Bool
holds period j = ltb 0 (at period j)

module _ (cost period first second label : List ℕ) where
  abbrev row : ℕ → List ℕ
  row = memory_row (present_in cost period first second label)

  pub record Packing (was out : List ℕ) (n i : ℕ) : Type 0 where
    pub few : i ≤ max_rows
    pub fewer : n ≤ i
    pub counted : n ≡ count i (holds period)
    pub filled : Filled was out (row_numbers * n) (each n row)

module _ {cost period first second label : List ℕ} where
  pub packing_start : (was : List ℕ) → Packing cost period first second label was was 0 0
  unfolding sum
  packing_start was = record {
    few = omega arith;
    fewer = omega arith;
    counted = refl;
    filled = filled_rows [] (row cost period first second label) (filled_start was);
  }

  module _ {was out : List ℕ} {n i : ℕ} (P : Packing cost period first second label was out n i) (l : i < max_rows) where
    pub packing_free : at period i ≡ 0 → Packing cost period first second label was out n (i + 1)
    packing_free e = record {
      few = omega arith;
      fewer = omega (arith, P.fewer);
      counted = P.counted ∙ sym (count_free (holds period) i (λ t. omega (arith, ltb→lt 0 (at period i) t, e)));
      filled = P.filled;
    }

    module _ (h : at period i ≢ 0) (room : row_numbers * max_rows ≤ length was) where
      held : T (holds period i)
      held = lt→ltb 0 (at period i) (omega (arith, h))

      -- the place of the row that is next
      here : place_of (holds period) n ≡ i
      here = ap (place_of (holds period)) P.counted ∙ place_of_count (holds period) i l held

      pub packing_held : {r : Row} {out' : List ℕ} → HasRow cost period first second i clockwise (at label i) r
          → out' ≡ sets out (row_numbers * n) (in_memory 1 r) → Packing cost period first second label was out' (n + 1) (i + 1)
      packing_held {r} {out'} R o = record {
        few = omega arith;
        fewer = omega (arith, P.fewer);
        counted = ap (λ (x : ℕ). x + 1) P.counted ∙ sym (count_held (holds period) i held);
        filled = filled_row {i = n} [] (row cost period first second label) (in_memory 1 r) (row_numbers * (n + 1)) P.filled o
            (memory_row_lem {t = present_in cost period first second label} {i = n} (record {
              cost = R.cost ∙ ap (at cost) (sym here);
              period = R.period ∙ ap (at period) (sym here);
              first = R.first ∙ ap (at first) (sym here);
              second = R.second ∙ ap (at second) (sym here);
              way = R.way;
              label = R.label ∙ ap (at label) (sym here);
            }))
            (omega arith) (omega (arith, P.fewer, room));
      }

  pub packing_end : {was out : List ℕ} {n i : ℕ} → Packing cost period first second label was out n i → max_rows ≤ i
      → PutPresent cost period first second label was out n
  unfolding numbers
  packing_end {was} {out} {n} {i} P l =
      let e : i ≡ max_rows = omega (arith, P.few) in
      let rows : n ≡ count max_rows (holds period) = P.counted ∙ ap (λ (k : ℕ). count k (holds period)) e in
      record { rows = rows; holds = rw rows at (filled_lent P.filled) }

-- ---- what is answered

-- on one ring a row's last number is its label
pub present_told : (l : Live) → Told (present l)
unfolding way_in label_in last_of
present_told l i h = (refl, refl)

module _ (v : ℕ) (l : Live) (was : List ℕ) where
  pub file_off : (InOrder l → ⊥) → Filed v l was was 15 0
  file_off n = record {
    answers = applied (off_live l) _ 15 0 n refl refl;
    done = λ z. absurd (let q : ⊥ = omega (arith, z) in q);
    refused = λ z. refl;
  }

  pub file_written : (n : ℕ) (xs now : List ℕ) (m p : ℕ) → InOrder l → n ≡ (present l).table.rows → xs ≡ numbers (present l)
      → Written table_mark v l.elements n xs was now m p → Filed v l was now m p
  unfolding rings_of
  file_written n xs now m p O e q w =
      let c : Written table_mark v l.elements (present l).table.rows (numbers (present l)) was now m p = rw (e, q) at w in
      record {
        answers = passed (off_live l) _ m p (λ z. z O) c.answers;
        done = λ z. c.done z ∙ ap (λ (b : List ℕ). lent b was) (bytes_alike v (memory_back (present l) (present_told l)));
        refused = c.refused;
      }

-- the numbers of the rows present, from the front of the slice that they were put in
pub present_numbers : {cost period first second label was now : List ℕ} {n : ℕ} → PutPresent cost period first second label was now n
    → take (row_numbers * n) now ≡ numbers (present_in cost period first second label)
present_numbers {cost} {period} {first} {second} {label} {was} {now} {n} P =
    ap (take (row_numbers * n)) P.holds
    ∙ lent_take (numbers (present_in cost period first second label)) was (row_numbers * n)
    (numbers_length (present_in cost period first second label) ∙ ap (λ (k : ℕ). row_numbers * k) (sym P.rows))

pub present_length : {cost period first second label was now : List ℕ} {n : ℕ} → PutPresent cost period first second label was now n
    → length (take (row_numbers * n) now) ≡ row_numbers * n
present_length {cost} {period} {first} {second} {label} P =
    ap length (present_numbers P) ∙ numbers_length (present_in cost period first second label)
    ∙ ap (λ (k : ℕ). row_numbers * k) (sym P.rows)

pub present_few : {cost period first second label was now : List ℕ} {n : ℕ} → PutPresent cost period first second label was now n
    → n ≤ max_rows
present_few {period = period} P = omega (arith, P.rows, count_le max_rows (holds period))
