-- Rows and sets weighed: 13, 14, or the reported load of document 01 and how many sets there are.
use mathlib.Core.Path.{◌≡◌, sym, ap, ◌∙◌}
use mathlib.Core.Bool.{Bool}
use mathlib.Core.List.{List}
use Prim.Native.Nat.{ℕ, ◌*◌, ◌/◌, ◌≤◌, ◌<◌}
use native.Mathlib.Omega.{arith}
use lib.Dec.{T, ltb, eqb}
use lib.ListN.{length, take, length-take}
use lib.Seq.{get_or-take}
use Rattle.numbers.specs.Finite.{lowest}
use Rattle.numbers.specs.Finite as finite
use Rattle.numbers.specs.Word.{bit}
use Rattle.numbers.specs.Lists.{at}
use Rattle.numbers.specs.Rounding.{up}
use Rattle.numbers.proofs.Finite.{lowest_has, lowest_below, lowest_eq, largest_eq, largest_under}
use Rattle.numbers.proofs.Rounding.{up_least}
use Rattle.rules.specs.Bus.{Table}
use Rattle.rules.specs.Line.{Sets}
use Rattle.rules.specs.Loads.{hyperperiod, shortest, rate, load, equal_periods, light, past, over, reported}
use Rattle.rules.specs.Refusals.{bound_checks}
use Rattle.rules.proofs.Answers.{answered}
use Rattle.table.specs.Sound.{Sound}
use Rattle.table.specs.Columns.{ByRow}
use Rattle.sets.specs.Sets.{OnLine, SetWords}
use Rattle.lags.specs.Lags.{Admissible}
use Rattle.lags.proofs.Intervals.{hyperperiod_positive}
use Rattle.time.specs.Time.{Timed}
use Rattle.time.specs.declared.Time.{Time}
use Rattle.outline.proofs.Sets.{Ends, ends_on_line, ring_list}
use Rattle.std.specs.Prelude.{Ok, Err}
use Rattle.table.specs.declared.refusals.Reason.TheVariants.{LightRow, OverBound}
use Rattle.table.specs.declared.refusals.Refusal.{Refusal}
use Rattle.verdict.specs.Weights.{Rates, weight, Weighed}
use Rattle.verdict.proofs.Weighing.{weight_load, past_over, within_one, equal_is, light_is, rates_are, rates_small}
use Rattle.verdict.specs.declared.Loaded.{Loaded}
use Rattle.verdict.specs.Weighing.{RowsWeighed, Weighable, Weighs}
use Rattle.verdict.proofs.Bound.{NoneLight, light_refused, over_refused, bound_none}

-- ---- the weights of a table's sets

module _ (t : Table) (xs ws : List ℕ) (k a b : ℕ) (r : (i : ℕ) → i < t.rows → at xs i ≡ rate t i)
    (W : Weighed t.rows xs k ws (equal_periods t) (hyperperiod t) (shortest t) a b) where
  loads_are : (j : ℕ) → j < k → weight t.rows xs (at ws j) ≡ load t (bit (at (take k ws) j))
  loads_are j l = weight_load t xs r (at ws j) ∙ ap (λ (w : ℕ). load t (bit w)) (sym (get_or-take k ws j 0 l))

  over_lowest : a ≡ lowest k (λ j. over t (bit (at (take k ws) j)))
  over_lowest =
      W.over_is
      ∙ lowest_eq k (λ j. past (equal_periods t) (hyperperiod t) (shortest t) (weight t.rows xs (at ws j)))
      (λ j. over t (bit (at (take k ws) j)))
      (λ j l. ap (past (equal_periods t) (hyperperiod t) (shortest t)) (loads_are j l) ∙ past_over t (bit (at (take k ws) j)))

  largest_load : b ≡ finite.largest k (λ j. load t (bit (at (take k ws) j)))
  largest_load = W.largest_is ∙ largest_eq k (λ j. weight t.rows xs (at ws j)) (λ j. load t (bit (at (take k ws) j))) loads_are

  -- the first set over its bound
  over_stop : a < k → T (over t (bit (at (take k ws) a))) × ((j : ℕ) → j < a → T (over t (bit (at (take k ws) j))) → ⊥)
  over_stop l =
      let p : ℕ → Bool = λ j. over t (bit (at (take k ws) j)) in
      (rw over_lowest (lowest_has k p (rw over_lowest at l)), λ j m. lowest_below k p j (rw over_lowest at m))

  -- or none
  over_none : k ≤ a → (j : ℕ) → j < k → T (over t (bit (at (take k ws) j))) → ⊥
  over_none l j m = lowest_below k (λ j. over t (bit (at (take k ws) j))) j (omega (arith, over_lowest))

  reported_is : length (take k ws) ≡ k → up (1000 * b) (hyperperiod t) ≡ reported t (take k ws)
  unfolding reported
  reported_is e = rw (e, largest_load)

-- ---- the rows

module _ {t : Table} {c : Time} (C : Timed t c) where
  equal : eqb c.interval c.hyper ≡ equal_periods t
  equal = rw (C.interval, C.hyper) (equal_is C.sound)

  pub rows_weighed : {i : ℕ} {xs : List ℕ} → ByRow t.rows (λ j. c.hyper / t.period j * t.cost j) xs
      × (i ≡ lowest t.rows (λ j. ltb (t.cost j * c.interval) (t.period j))) → RowsWeighed t i xs
  rows_weighed e = record {
    rate = rates_are t C.hyper e.0;
    light_is =
        e.1
        ∙ lowest_eq t.rows (λ j. ltb (t.cost j * c.interval) (t.period j)) (light t)
        (λ j l. ap (λ (x : ℕ). ltb (t.cost j * x) (t.period j)) C.interval ∙ light_is C.sound j l);
  }

-- ---- the table that is weighed

module _ {t : Table} {n i : ℕ} {c : Time} {top : ℕ} {first second xs : List ℕ} (A : Weighable t n i c top first second xs) where
  sound : Sound t
  sound = A.timed.sound

  rates : (j : ℕ) → j < t.rows → at xs j ≡ rate t j
  rates = A.weighed.rate.row

  low : i ≡ lowest t.rows (light t)
  low = A.weighed.light_is

  ends : Ends t (at first) (at second)
  ends i l = (A.first.row i l, A.second.row i l)

  pub weighable_on_line : OnLine n (at first) (at second) top
  weighable_on_line = rw (A.rows_is, A.top_is) (ends_on_line t sound A.clear (at first) (at second) ends)

  pub weighable_rates : Rates xs n
  weighable_rates = rw A.rows_is (rates_small sound A.timed.short A.weighed.rate)

  -- ---- each outcome

  pub weighs_light : i < n → (r : Refusal) → (r.reason ≡ LightRow) × (r.place ≡ i) → Weighs t (Err r)
  weighs_light h r e =
      let l : i < t.rows = rw A.rows_is at h in
      record {
        answers =
            rw (e.0, e.1)
            (light_refused t i l
            (rw low (lowest_has t.rows (light t) (rw low at l)))
            (λ j m. lowest_below t.rows (light t) j (rw low at m)));
        done = tt;
      }

  module _ (heavy : n ≤ i) {k a b : ℕ} {ws : List ℕ} (L : SetWords n (at first) (at second) k ws)
      (W : Weighed n xs k ws (eqb c.interval c.hyper) c.hyper c.interval a b) where
    none_light : NoneLight t
    none_light j l = lowest_below t.rows (light t) j (omega (arith, low, A.rows_is))

    weighed : Weighed t.rows xs k ws (equal_periods t) (hyperperiod t) (shortest t) a b
    weighed = rw (equal A.timed, A.timed.hyper, A.timed.interval, A.rows_is) at W

    listed : SetWords t.rows (at first) (at second) k ws
    listed = rw A.rows_is at L

    list : Sets t (take k ws)
    list = ring_list t sound A.clear (at first) (at second) ends (take k ws) listed.sets

    count : length (take k ws) ≡ k
    count = let s = sound in omega (arith, length-take k ws, L.size, L.few)

    pub weighs_over : a < k → (r : Refusal) → (r.reason ≡ OverBound) × (r.place ≡ a) → Weighs t (Err r)
    weighs_over l r e =
        let u = over_stop t xs ws k a b rates weighed l in
        record {
          answers =
              rw (e.0, e.1)
              (over_refused t sound.rows_low (take k ws) list none_light a (omega (arith, count)) (omega (arith, count, L.few))
              u.0 u.1);
          done = tt;
        }

    pub weighs_done : k ≤ a → {w : Loaded} → w.sets ≡ k → w.load ≡ up (1000 * b) c.hyper → Weighs t (Ok w)
    weighs_done l s y =
        let u = over_none t xs ws k a b rates weighed l in
        record {
          answers = answered (bound_checks t) (bound_none t sound.rows_low (take k ws) list none_light (λ j m. u j (rw count at m)));
          done = (
            take k ws,
            list,
            s ∙ sym count,
            y ∙ ap (up (1000 * b)) A.timed.hyper ∙ reported_is t xs ws k a b rates weighed count,
          );
        }

-- the reported load of a table that is admitted is at most 1000
pub reported_small : {t : Table} → Admissible t → (ws : List ℕ) → Sets t ws → reported t ws ≤ 1000
unfolding reported
reported_small {t} A ws S =
    let s = A.sound in
    let m : finite.largest (length ws) (λ k. load t (bit (at ws k))) ≤ hyperperiod t =
    largest_under (λ k. load t (bit (at ws k))) (length ws) (hyperperiod t)
    (λ k l. within_one s (bit (at ws k)) (A.bounded (bit (at ws k)) (S.each k l))) in
    up_least (1000 * finite.largest (length ws) (λ k. load t (bit (at ws k)))) (hyperperiod t) (hyperperiod_positive s) 1000 (omega arith)
