-- The loads of one interval as the network chooses them: rows in consecutive sets are the table's rows in its overlap sets, so what
-- qualifies there is what qualifies for the table, and the greatest there is the greatest.
use mathlib.Core.Path.{◌≡◌, refl, sym, ap₂, subst₂}
use mathlib.Core.List.{List}
use Prim.Native.Nat.{ℕ, ◌+◌, ◌-◌, ◌*◌, ◌/◌, ◌≤◌, ◌<◌}
use native.Mathlib.Nat.{mul-le-mul_right, lt_of_mul-lt-mul_right}
use native.Mathlib.Omega.{arith}
use lib.ListN.{length}
use Rattle.numbers.specs.Finite.{sum_in}
use Rattle.numbers.specs.Word.{bit}
use Rattle.numbers.specs.Lists.{at}
use Rattle.numbers.specs.Rounding.{Rounded}
use Rattle.numbers.proofs.Finite.{sum_in_eq}
use Rattle.numbers.proofs.Rounding.{down_under, down_greatest}
use Rattle.rules.specs.Bounds.{max_slots}
use Rattle.rules.specs.Bus.{Table, overlap}
use Rattle.rules.specs.Line.{line_first, Sets}
use Rattle.rules.specs.Loads.{hyperperiod, start, end, intervals, rate, share}
use Rattle.rules.specs.Interval.{Qualify, Greatest, SlotWords}
use Rattle.rules.proofs.Sets.{set_in}
use Rattle.lags.specs.Lags.{Admissible, Steady}
use Rattle.lags.proofs.Intervals.{hyperperiod_positive, rate_le, end_le}
use Rattle.lags.proofs.Lags.{row_lag, qualify_of}
use Rattle.promises.proofs.Words.{words_placed}
use Rattle.loads.specs.Loads.{in_set, Qualified}
use Rattle.loads.specs.Ranges.{lowest_set, highest_set}
use Rattle.interval.specs.Interval.{Moved}
use Rattle.interval.proofs.RowSets.{set_rows}

module _ {t : Table} (A : Admissible t) {k : ℕ} (in_range : k < intervals t) where
  -- ---- the shares at the interval's end

  -- a row's share is never above the slots so far
  share_le : (i : ℕ) → i < t.rows → share t i (end t k) ≤ end t k * hyperperiod t
  share_le i l = omega (arith, mul-le-mul_right (end t k) (rate_le A.sound i l))

  end_small : end t k ≤ max_slots
  end_small = omega (arith, end_le A.sound k in_range, A.short)

  pub share_small : (i : ℕ) → i < t.rows → share t i (end t k) ≤ max_slots * max_slots
  share_small i l =
      let r : rate t i ≤ max_slots = omega (arith, rate_le A.sound i l, A.short) in
      omega (arith, mul-le-mul_right (end t k) r, end_small)

  module _ {had : ℕ → ℕ} (st : Steady t (start t k) had) (s : ℕ → ℕ) (is : (i : ℕ) → i < t.rows → s i ≡ share t i (end t k)) where
    -- no row has had more than its whole slots
    pub had_le : (i : ℕ) → i < t.rows → had i ≤ s i / hyperperiod t
    had_le i l =
        down_greatest (s i) (hyperperiod t) (hyperperiod_positive A.sound) (had i) (omega (arith, is i l, row_lag A in_range st i l))

    pub whole_small : (i : ℕ) → i < t.rows → s i / hyperperiod t ≤ max_slots
    whole_small i l =
        let h = hyperperiod_positive A.sound in
        let z : s i / hyperperiod t < end t k + 1 =
        lt_of_mul-lt-mul_right (hyperperiod t) (omega (arith, down_under (s i) (hyperperiod t) h, is i l, share_le i l)) in
        omega (arith, end_small)

    -- ---- what qualifies

    module _ {ws : List ℕ} (S : Sets t ws) (a b : ℕ → ℕ) (low : (i : ℕ) → i < t.rows → a i ≡ lowest_set (length ws) ws i)
        (high : (i : ℕ) → i < t.rows → b i ≡ highest_set (length ws) ws i) where
      -- the sum over a set of the list, and over the same set of the network
      sum_as : (m : ℕ) → m < length ws → (f g : ℕ → ℕ) → ((i : ℕ) → i < t.rows → f i ≡ g i)
          → sum_in t.rows (in_set a b m) f ≡ sum_in t.rows (bit (at ws m)) g
      sum_as m l f g e =
          sum_in_eq t.rows (in_set a b m) (bit (at ws m)) f g (λ i h. sym (set_rows A S a b low high i m h l)) (λ i h u. e i h)

      module _ (x : ℕ → ℕ) (m : ℕ) (l : m < length ws) where
        had_load : sum_in t.rows (in_set a b m) had + sum_in t.rows (in_set a b m) x
            ≡ sum_in t.rows (bit (at ws m)) had + sum_in t.rows (bit (at ws m)) x
        had_load = ap₂ ◌+◌ (sum_as m l had had (λ i h. refl)) (sum_as m l x x (λ i h. refl))

        shares : sum_in t.rows (in_set a b m) s ≡ sum_in t.rows (bit (at ws m)) (λ i. share t i (end t k))
        shares = sum_as m l s (λ i. share t i (end t k)) is

      qualified_of : (x : ℕ → ℕ) → Qualify t k had x → Qualified t.rows (length ws) a b (hyperperiod t) s had x
      qualified_of x Q = record {
        rows = λ i l. rw (is i l) (Q.rows i l);
        sets = λ m l.
            subst₂ (λ (n c : ℕ). Rounded n c (hyperperiod t)) (sym (had_load x m l)) (sym (shares x m l))
            (Q.sets (bit (at ws m)) (S.each m l));
      }

      qualify_is : (x : ℕ → ℕ) → Qualified t.rows (length ws) a b (hyperperiod t) s had x → Qualify t k had x
      qualify_is x Q =
          qualify_of A in_range st x (λ i l. rw (is i l) at (Q.rows i l))
          (λ D o. let r = set_in S o in
          rw r.2 at
          (subst₂ (λ (n c : ℕ). Rounded n c (hyperperiod t)) (had_load x r.0 r.1) (shares x r.0 r.1) (Q.sets r.0 r.1)))

      -- ---- the interval done

      module _ {x : ℕ → ℕ} (G : Greatest t.rows (Qualified t.rows (length ws) a b (hyperperiod t) s had) x) where
        pub chosen_qualify : Qualify t k had x
        chosen_qualify = qualify_is x G.qualify

        pub moved_of : (now : ℕ → ℕ) (vs : List ℕ) → SlotWords t.rows (overlap t) (line_first t) x (end t k - start t k) vs
            → ((i : ℕ) → i < t.rows → now i ≡ had i + x i) → ((i : ℕ) → t.rows ≤ i → now i ≡ had i) → Moved t k had now vs
        moved_of now vs W m p = record {
          loads = x;
          greatest = record { qualify = chosen_qualify; most = λ z Q. G.most z (qualified_of z Q) };
          words = W;
          placed = words_placed A chosen_qualify W;
          moved = m;
          spare = p;
        }
