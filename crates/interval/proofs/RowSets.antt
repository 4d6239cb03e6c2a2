-- Rows and the listed overlap sets of an admitted table: a row is in exactly the sets from its lowest to its highest.
use mathlib.Core.Path.{◌≡◌, refl, sym, ap, ◌∙◌}
use mathlib.Core.List.{List}
use mathlib.Core.Bool.{Bool, not}
use Prim.Native.Nat.{ℕ, zero, suc, ◌+◌, ◌*◌, ◌≤◌, ◌<◌}
use native.Mathlib.Decide.{dec_lt}
use native.Mathlib.Omega.{arith}
use lib.Bits.{bit_and}
use lib.Dec.{T, leb, ltb, eqb}
use lib.ListN.{length, take}
use borrow.Author.Tests.{le-leb, leb-true, lt-ltb, le-ltb}
use Rattle.numbers.specs.Finite.{lowest, highest}
use Rattle.numbers.specs.Word.{bit}
use Rattle.numbers.specs.Lists.{at}
use Rattle.numbers.proofs.Truth.{both, fst, snd, same, is_true, of_true, of_false, along}
use Rattle.numbers.proofs.Finite.{lowest_is, lowest_has, lowest_under, lowest_le, highest_is, highest_lt, highest_has, highest_above}
use Rattle.numbers.proofs.Word.{bit_zero, bit_word}
use Rattle.rules.specs.Bounds.{max_rings}
use Rattle.rules.specs.Bus.{Table}
use Rattle.rules.specs.Line.{on_line, line_first, line_second, meet, SetList, Sets}
use Rattle.table.specs.Columns.{ByRow}
use Rattle.table.proofs.ByRow.{past_end}
use Rattle.ring.specs.Route.{line_element, line_end}
use Rattle.ring.proofs.Routes.{route_high}
use Rattle.ring.proofs.OnLine.{row_route, line_ordered}
use Rattle.sets.proofs.List.{listed, consecutive}
use Rattle.sets.proofs.Transfer.{list_agree}
use Rattle.lags.specs.Lags.{Admissible}
use Rattle.loads.specs.Loads.{covers, in_set, last, digit, Spans}
use Rattle.loads.proofs.Settling.{digit_on, digit_off}
use Rattle.loads.specs.Ranges.{lowest_set, highest_set, Ranged}
use Rattle.interval.specs.declared.fold.Folded.{Folded}
use Rattle.interval.specs.Folded.{upper_rows, low_sets, FoldedSets}
use Rattle.interval.proofs.Unfolding.{ring_sets}
use Rattle.interval.proofs.Rings.{in_ring, few_folded}
use Rattle.promises.proofs.Words.{overlap_agrees}

-- ---- a row's sets

pub covers_is : (a b k : ℕ) → T (covers a b k) → (a ≤ k) × (k ≤ b)
covers_is a b k t = (leb-true a k (is_true _ (fst (leb a k) (leb k b) t)), leb-true k b (is_true _ (snd (leb a k) (leb k b) t)))

pub covers_of : (a b k : ℕ) → a ≤ k → k ≤ b → T (covers a b k)
covers_of a b k l m = both (leb a k) (leb k b) (of_true (le-leb a k l)) (of_true (le-leb k b m))

module _ {t : Table} (A : Admissible t) {ws : List ℕ} (S : Sets t ws) where
  on_line_set : SetList t.rows (meet (line_first t) (line_second t)) (line_second t) ws
  on_line_set = list_agree (overlap_agrees A) (λ i l. refl) S

  in_some : (i : ℕ) → i < t.rows → (k : ℕ) × (k < length ws) × T (bit (at ws k) i)
  in_some = listed t.rows (line_first t) (line_second t) (line_ordered t A.sound A.clear) A.sound.rows_low ws on_line_set

  between : (i k l m : ℕ) → k ≤ l → l ≤ m → m < length ws → T (bit (at ws k) i) → T (bit (at ws m) i) → T (bit (at ws l) i)
  between = consecutive t.rows (line_first t) (line_second t) (line_ordered t A.sound A.clear) A.sound.rows_low ws on_line_set

  module _ (a b : ℕ → ℕ) (low : (i : ℕ) → i < t.rows → a i ≡ lowest_set (length ws) ws i)
      (high : (i : ℕ) → i < t.rows → b i ≡ highest_set (length ws) ws i) where
    -- the lowest and the highest set of a row are sets that it is in, and all its sets lie between them
    at_lowest : (i : ℕ) → i < t.rows → (a i < length ws) × T (bit (at ws (a i)) i)
    at_lowest i l =
        let m = in_some i l in
        let p : ℕ → Bool = λ k. bit (at ws k) i in
        let h : lowest (length ws) p < length ws = omega (arith, lowest_under (length ws) p m.0 m.2, m.1) in
        rw (low i l) (h, lowest_has (length ws) p h)

    at_highest : (i : ℕ) → i < t.rows → (b i < length ws) × T (bit (at ws (b i)) i)
    at_highest i l =
        let m = in_some i l in
        let p : ℕ → Bool = λ k. bit (at ws k) i in
        rw (high i l) (highest_lt (length ws) p (omega (arith, m.1)), highest_has (length ws) p m.0 m.1 m.2)

    within : (i k : ℕ) → i < t.rows → k < length ws → T (bit (at ws k) i) → (a i ≤ k) × (k ≤ b i)
    within i k l h u =
        let p : ℕ → Bool = λ k. bit (at ws k) i in
        (omega (arith, low i l, lowest_under (length ws) p k u), omega (arith, high i l, highest_above (length ws) p k h u))

    pub set_rows : (i k : ℕ) → i < t.rows → k < length ws → bit (at ws k) i ≡ in_set a b k i
    set_rows i k l h =
        same (bit (at ws k) i) (in_set a b k i)
        (λ u. let r = within i k l h u in covers_of (a i) (b i) k r.0 r.1)
        (λ u. let r = covers_is (a i) (b i) k u in
        between i (a i) k (b i) r.0 r.1 (at_highest i l).0 (at_lowest i l).1 (at_highest i l).1)

    pub row_span : (i : ℕ) → i < t.rows → (a i ≤ b i) × (b i < length ws)
    row_span i l = ((within i (b i) l (at_highest i l).0 (at_highest i l).1).0, (at_highest i l).0)

-- ---- the sets folded

-- a row stands on its ring's part of the line
module _ {t : Table} (A : Admissible t) where
  row_own : (i : ℕ) → i < t.rows → (t.way i * (t.elements + 1) < line_first t i)
      × (line_second t i ≤ t.way i * (t.elements + 1) + (t.elements + 1))
  unfolding line_first line_second on_line line_element line_end
  row_own i l = (omega arith, omega (arith, route_high (row_route t A.sound A.clear i l)))

  -- those of the second ring start past the elements of the first
  row_ring : {upper : ℕ} {first : List ℕ} → ByRow t.rows (line_first t) first → upper ≡ upper_rows t.rows t.elements (at first)
      → (i : ℕ) → i < t.rows → digit upper i ≡ t.way i
  row_ring {upper} {first} F is i l =
      go (t.way i) (omega (arith, (A.sound.row i l).way_known, A.sound.rings_few)) (row_own i l)
    where
      tested : bit upper i ≡ ltb t.elements (line_first t i)
      tested =
          ap (λ (w : ℕ). bit w i) is ∙ bit_word t.rows (λ j. ltb t.elements (at first j)) i
          ∙ rw (lt-ltb i t.rows l, F.row i l) refl

      go : (d : ℕ) → d < max_rings
          → (d * (t.elements + 1) < line_first t i) × (line_second t i ≤ d * (t.elements + 1) + (t.elements + 1)) → digit upper i ≡ d
      go zero h p =
          digit_off upper i (tested ∙ le-ltb t.elements (line_first t i) (omega (arith, p, line_ordered t A.sound A.clear i l)))
      go (suc zero) h p = digit_on upper i (tested ∙ lt-ltb t.elements (line_first t i) (omega (arith, p)))
      go (suc (suc d)) h p = absurd (omega arith)

module _ {t : Table} {K : ℕ} {was first : List ℕ} {F : Folded} {vs : List ℕ} (A : Admissible t) (S : Sets t (take K was))
    (B : ByRow t.rows (line_first t) first) (G : FoldedSets t.rows t.elements K (at first) was F vs) where
  abbrev ws : List ℕ
  ws = take K was

  abbrev low : ℕ
  low = low_sets F.upper ws

  own : (i : ℕ) → i < t.rows → (digit F.upper i * (t.elements + 1) < line_first t i)
      × (line_second t i ≤ digit F.upper i * (t.elements + 1) + (t.elements + 1))
  own i l = rw (row_ring A B G.upper i l) (row_own A i l)

  -- the folded line has no more sets than elements
  pub folded_few : F.sets ≤ t.elements
  folded_few =
      omega (
        arith,
        G.sets,
        few_folded t.rows t.elements (line_first t) (line_second t) F.upper (line_ordered t A.sound A.clear)
            A.sound.rows_low own ws (on_line_set A S),
      )

  -- none of the rings has more sets than the folded line
  pub ring_few : (d : ℕ) → ring_sets low (length ws) d ≤ F.sets
  unfolding ring_sets
  ring_few zero = omega (arith, G.sets)
  ring_few (suc d) = omega (arith, G.sets)

  pub low_some : low ≤ length ws
  low_some = lowest_le (length ws) (λ k. not (eqb (bit_and (at ws k) F.upper) 0))

  -- a row's set is one of the list
  listed_at : (m i : ℕ) → T (bit (at ws m) i) → m < length ws
  listed_at m i u = go (dec_lt m (length ws))
    where
      go : Dec (m < length ws) → m < length ws
      go (yes h) = h
      go (no h) = absurd (of_false (ap (λ (w : ℕ). bit w i) (past_end ws m (omega arith)) ∙ bit_zero i) u)

  -- the same on the row's ring
  folded_at : (m i : ℕ) → m < length ws → T (bit (at ws m) i)
      → (k : ℕ) × (k < ring_sets low (length ws) (digit F.upper i)) × (m ≡ digit F.upper i * low + k)
  folded_at =
      in_ring t.rows t.elements (line_first t) (line_second t) F.upper (line_ordered t A.sound A.clear) A.sound.rows_low
      own ws (on_line_set A S)

  module _ {tail head : List ℕ} (R : Ranged t.rows F.sets vs tail head) where
    -- the nodes where the rows start and end, on the line that is not folded
    abbrev pub from : ℕ → ℕ
    from i = digit F.upper i * low + at tail i

    abbrev pub to : ℕ → ℕ
    to i = digit F.upper i * low + last head i

    pub ranged_low : (i : ℕ) → i < t.rows → from i ≡ lowest_set (length ws) ws i
    ranged_low i l =
        let m = in_some A S i l in
        let p : ℕ → Bool = λ k. bit (at ws k) i in
        let h : lowest (length ws) p < length ws = omega (arith, lowest_under (length ws) p m.0 m.2, m.1) in
        let c = folded_at (lowest (length ws) p) i h (lowest_has (length ws) p h) in
        let k : c.0 < F.sets = omega (arith, c.1, ring_few (digit F.upper i)) in
        let e : lowest F.sets (λ k. bit (at vs k) i) ≡ c.0 =
        lowest_is F.sets (λ k. bit (at vs k) i) c.0 k
        (along (sym (G.word c.0 i k)) (rw c.2 at (lowest_has (length ws) p h)))
        (λ j q u. omega (arith, c.2, lowest_under (length ws) p (digit F.upper i * low + j) (along (G.word j i (omega arith)) u))) in
        omega (arith, R.lowest.row i l, e, c.2)

    pub ranged_high : (i : ℕ) → i < t.rows → to i ≡ highest_set (length ws) ws i
    ranged_high i l =
        let m = in_some A S i l in
        let p : ℕ → Bool = λ k. bit (at ws k) i in
        let h = highest_lt (length ws) p (omega (arith, m.1)) in
        let v = highest_has (length ws) p m.0 m.1 m.2 in
        let c = folded_at (highest (length ws) p) i h v in
        let k : c.0 < F.sets = omega (arith, c.1, ring_few (digit F.upper i)) in
        let e : highest F.sets (λ k. bit (at vs k) i) ≡ c.0 =
        highest_is F.sets (λ k. bit (at vs k) i) c.0 k (along (sym (G.word c.0 i k)) (rw c.2 at v))
        (λ j q b u.
        let w = along (G.word j i b) u in
        omega (arith, c.2, highest_above (length ws) p (digit F.upper i * low + j) (listed_at (digit F.upper i * low + j) i w) w)) in
        omega (arith, R.highest.row i l, e, c.2)

    -- a row ends within its ring's sets
    pub ranged_ends : (i : ℕ) → i < t.rows → last head i < ring_sets low (length ws) (digit F.upper i)
    ranged_ends i l =
        let e = at_highest A S from to ranged_low ranged_high i l in
        let c = folded_at (to i) i e.0 e.1 in
        omega (arith, c.1, c.2)

    pub ranged_spans : Spans t.rows F.sets (at tail) (last head)
    ranged_spans = record {
      few_rows = A.sound.rows_high;
      few_sets = omega (arith, folded_few, A.sound.elements_high);
      row = λ i l. (
        omega (arith, row_span A S from to ranged_low ranged_high i l),
        omega (arith, ranged_ends i l, ring_few (digit F.upper i)),
      );
    }
