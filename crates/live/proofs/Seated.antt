-- Places of a live table, one by one and all together.
use mathlib.Core.Path.{◌≡◌, refl, sym, ap, ◌∙◌}
use mathlib.Core.Logic.{◌⊎◌, inl, inr, ⊎_elim, ◌≢◌}
use mathlib.Core.Bool.{Bool, true, false, not, ◌&&◌, and-true}
use mathlib.Core.List.{List}
use Prim.Native.Nat.{ℕ, ◌<◌, zero-le}
use native.Mathlib.Nat.{zero-add}
use native.Mathlib.Omega.{arith}
use lib.Dec.{T, eqb, ltb, ltb→lt, lt→ltb}
use lib.ListN.{length, get_or}
use lib.Seq.{ext_get_or}
use denote.Param.Members.{Mut}
use Rattle.std.specs.Bool.{MatchBool}
use Rattle.std.specs.Prelude.{Result, Ok, Err}
use Rattle.std.specs.Result.{is_ok}
use Rattle.std.specs.Fn.{Called}
use Rattle.std.specs.Iterator.{YieldsThen}
use Rattle.std.specs.List.{AllWithin, HoldsAt, FoldsTo, range_with_len, list_any}
use Rattle.std.specs.Option.{MatchOption}
use Rattle.std.specs.Cmp.Lexicographic.{pointwise, told_text}
use Rattle.std.proofs.Common.{Option, None, Some}
use Rattle.std.proofs.lemmas.Iterator.{YieldsList, cases_from_all}
use Rattle.std.proofs.lemmas.List.FromFn.{get_or-range_with_len, length-range_with_len}
use Rattle.std.proofs.lemmas.List.Elements.{All-from_all_within}
use Rattle.std.proofs.lemmas.List.Folds.{list_any_at, list_any_none}
use Rattle.numbers.specs.Finite.{any, lowest}
use Rattle.numbers.specs.Decides.{Decides}
use Rattle.numbers.proofs.Finite.{any_eq, any_of, least, lowest_is, lowest_none}
use Rattle.numbers.proofs.Truth.{decide, refuted, refutes, is_true, is_false, decides_yes, decides_no}
use Rattle.rules.specs.Bus.{clockwise, unlabelled, pasted}
use Rattle.rules.specs.Refusals.{Answers, faults}
use Rattle.rules.specs.Live.{Live, Blank, places}
use Rattle.rules.proofs.Answers.{answers_only, answered, none_of}
use Rattle.table.specs.declared.Row.{Row}
use Rattle.table.specs.Rows.{IsRow, single}
use Rattle.table.specs.Refusal.{number_of, why}
use Rattle.table.specs.declared.refusals.Reason.{Reason}
use Rattle.table.proofs.Reasons.{not_done}
use Rattle.table.proofs.Faults.{faults_numbered, row_clean, row_sound, row_none}
use Rattle.live.proofs.Sums.{row_alone, place_row}
use Rattle.live.specs.Tally.{column_live}
use Rattle.numbers.specs.Lists.{at}
use Rattle.table.specs.Columns.{HasRow}
use Rattle.live.specs.Seats.{Zeros, Seat, equal}

-- ---- one place

-- a place that isn't free is right exactly if no fault of 7 to 9 is found
pub fault_decided : (M : ℕ) (row : Row) (a : Result Unit Reason) → (Zeros row → ⊥) → Answers (faults (single M 1 row) 0) (why a) 0
    → Decides (Zeros row ⊎ Answers (faults (single M 1 row) 0) 0 0) (is_ok a)
fault_decided M row (Ok _) z a = decides_yes (inr a)
fault_decided M row (Err r) z a =
    decides_no (λ w. ⊎_elim z (λ b. not_done r (answers_only (faults (single M 1 row) 0) (number_of r) 0 0 0 a b).0) w)

-- what is found of a row is so of the place that holds it
module _ {l : Live} {i : ℕ} {row : Row} (R : IsRow (record { table = places l; label = l.label }) i row) where
  pub seat_of : Zeros row ⊎ Answers (faults (single l.elements 1 row) 0) 0 0 → Seat l i
  seat_of =
      ⊎_elim
      (λ (z : Zeros row). inl (record {
        cost = sym R.cost ∙ z.cost;
        period = sym R.period ∙ z.period;
        first = sym R.first ∙ z.first;
        second = sym R.second ∙ z.second;
        label = sym R.label ∙ z.label;
      }))
      (λ a. inr (answered (faults (places l) i)
      (row_clean l.elements 1 row (record { table = places l; label = l.label }) i refl refl R a)))

  pub of_seat : Seat l i → Zeros row ⊎ Answers (faults (single l.elements 1 row) 0) 0 0
  of_seat =
      ⊎_elim
      (λ (z : Blank l i). inl (record {
        cost = R.cost ∙ z.cost;
        period = R.period ∙ z.period;
        first = R.first ∙ z.first;
        second = R.second ∙ z.second;
        label = R.label ∙ z.label;
      }))
      (λ (a : Answers (faults (places l) i) 0 0). inr (answered (faults (single l.elements 1 row) 0) (row_none _ 0
      (row_alone R (row_sound (places l) i (none_of (faults (places l) i) 0 (faults_numbered (places l) i) a))))))

pub seat_decided : {M : ℕ} {cost period first second : List ℕ} (label : List ℕ) {i : ℕ} {row : Row} {b : Bool}
    → HasRow cost period first second i clockwise (at label i) row
    → Decides (Zeros row ⊎ Answers (faults (single M 1 row) 0) 0 0) b
    → Decides (Seat (column_live M cost period first second label) i) b
seat_decided {M} label H D = record {
  holds = λ e. seat_of (place_row M (at label) H) (D.holds e);
  fails = λ e s. D.fails e (of_seat (place_row M (at label) H) s);
}

-- ---- equal rows

-- an earlier place has the row of place i
pub earlier_equal : (l : Live) {i : ℕ} {row : Row} → IsRow (unlabelled (places l)) i row
    → any i (equal l.period l.first l.second row) ≡ pasted (places l) i
unfolding pasted
earlier_equal l {i} R =
    rw (R.period, R.first, R.second) (any_eq i _ _ (λ j k. sym (and-true _)))

pub held_decides : (p : ℕ) (b : Bool) → p ≢ 0 → b ≡ (ltb 0 p && b)
held_decides p b n = sym (ap (λ (t : Bool). t && b) (is_true (ltb 0 p) (lt→ltb 0 p (omega (arith, n)))))

-- a place doesn't hold a row that stands before it too
pub single_decided : (a b r : Bool) → r ≡ not (a && b) → Decides (T a → T b → ⊥) r
single_decided true true r e = rw e (decides_no (λ h. h tt tt))
single_decided true false r e = rw e (decides_yes (λ s t. t))
single_decided false b r e = rw e (decides_yes (λ s t. absurd s))

-- ---- all of several, and one of several

module _ (n : ℕ) where
  abbrev below_n : List ℕ
  below_n = range_with_len 0 n

  below_at : (P : ℕ → Type 0) (i d : ℕ) → i < n → P (get_or below_n i d) ≡ P i
  below_at P i d l = ap P (get_or-range_with_len 0 n i d l ∙ zero-add i)

  all_decides : (P : ℕ → Type 0) (r : Bool)
      → MatchBool r (AllWithin P below_n 0 (length below_n)) ((k : ℕ) × (k < length below_n) × HoldsAt (λ i. P i → ⊥) below_n k)
      → Decides ((i : ℕ) → i < n → P i) r
  all_decides P true h = decides_yes (λ i l. rw (← below_at P i 0 l) (h i 0 zero-le (omega (arith, length-range_with_len 0 n))))
  all_decides P false h =
      let l : h.0 < n = omega (arith, h.1, length-range_with_len 0 n) in
      decides_no (λ a. h.2 0 (rw (below_at P h.0 0 l) (a h.0 l)))

-- what `all` answers of the numbers below n, where each call decides P
pub decides_from_all : {S F : Type 0} {steps : S → Option ℕ → S → Type 0} {g : Mut F (ℕ × Unit {0}) Bool} {s : S} (n : ℕ) (P : ℕ → Type 0)
    (u : S) (f : F) (r : Bool)
    → (xs : List ℕ) × (o : Option ℕ) × (j : F) × YieldsThen steps s xs o u × FoldsTo (λ p x q. Called g p (x, tt) true q) f xs j
    × MatchOption o (r ≡ true) (λ x. (r ≡ false) × ((h : F) × Called g j (x, tt) false h))
    → YieldsList steps (λ x. x) s (range_with_len 0 n)
    → ((x : ℕ) (b : Bool) (q : F) → Called g f (x, tt) b q → (q ≡ f) × Decides (P x) b)
    → Decides ((i : ℕ) → i < n → P i) r
decides_from_all n P u f r ran road call =
    all_decides n P r
    (cases_from_all u f r P (λ i. P i → ⊥) ran road
    (λ x q k. let w = call x true q k in (w.0, w.1.holds refl))
    (λ x q k. (call x false q k).1.fails refl))

-- that one of the numbers below n passes, as std's test of a list has it
pub any_below : (n : ℕ) (p : ℕ → Bool) → list_any p (range_with_len 0 n) ≡ any n p
any_below n p = ⊎_elim some none (decide (any n p))
  where
    some : T (any n p) → list_any p (range_with_len 0 n) ≡ any n p
    some t =
        let w = least n p t in
        list_any_at p (range_with_len 0 n) w.0 0 (omega (arith, w.1, length-range_with_len 0 n))
        (is_true _ (rw (below_at n (λ i. T (p i)) w.0 0 w.1) w.2)) ∙ sym (is_true _ t)

    none : (T (any n p) → ⊥) → list_any p (range_with_len 0 n) ≡ any n p
    none u =
        list_any_none p (range_with_len 0 n) (All-from_all_within (λ i. p i ≡ false) _ (λ k d z l.
        let m : k < n = omega (arith, l, length-range_with_len 0 n) in
        is_false _ (λ t. u (any_of n p k m (rw (below_at n (λ i. T (p i)) k d m) at t)))))
        ∙ sym (is_false _ u)

-- ---- lists

pub same_decided : (xs ys : List ℕ) {n : ℕ} (r : Bool) → length xs ≡ n → length ys ≡ n → r ≡ pointwise eqb xs ys
    → Decides ((s : ℕ) → s < n → at xs s ≡ at ys s) r
same_decided xs ys {n} r x y e = go r (told_text xs ys r e)
  where
    go : (b : Bool) → MatchBool b (xs ≡ ys) (xs ≢ ys) → Decides ((s : ℕ) → s < n → at xs s ≡ at ys s) b
    go true m = decides_yes (λ s l. ap (λ (zs : List ℕ). at zs s) m)
    go false m = decides_no (λ h. m (ext_get_or 0 xs ys (x ∙ sym y) (λ s l. h s (omega (arith, x)))))

-- the first place with 0 in it
pub first_zero : (xs : List ℕ) {n : ℕ} (r : Option ℕ) → length xs ≡ n
    → MatchOption r (AllWithin (λ x. 0 < x) xs 0 (length xs))
    (λ i. (i < length xs) × HoldsAt (λ x. x ≡ 0) xs i × AllWithin (λ x. 0 < x) xs 0 i)
    → MatchOption r (lowest n (λ i. not (ltb 0 (at xs i))) ≡ n) (λ i. (i ≡ lowest n (λ j. not (ltb 0 (at xs j)))) × (i < n))
first_zero xs {n} None e h =
    lowest_none n _ (λ i l t. refutes (ltb 0 (at xs i)) t (lt→ltb 0 (at xs i) (h i 0 zero-le (omega (arith, e)))))
first_zero xs {n} (Some i) e h =
    let l : i < n = omega (arith, h.0, e) in (
      sym (lowest_is n (λ j. not (ltb 0 (at xs j))) i l
          (refuted (ltb 0 (at xs i)) (λ t. omega (arith, h.1 0, ltb→lt 0 (at xs i) t)))
          (λ j k t. refutes (ltb 0 (at xs j)) t (lt→ltb 0 (at xs j) (h.2 j 0 zero-le k)))),
      l,
    )
