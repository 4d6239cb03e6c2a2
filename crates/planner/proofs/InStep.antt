-- Document 01's planner states, by the code's numbers: totals that keep step, spare totals, standings.
--
--   Shown t n h rates m words     a table's row count, hyperperiod, rates and list of sets, as the code holds them
--
-- A state whose interval number is in range is off exactly if a spare total is not 0 or the totals don't keep step; that is decided, so
-- that a test which fails shows a row or a set that is off.
use mathlib.Core.Path.{◌≡◌, refl, sym, ap, ap₂, ◌∙◌, subst}
use mathlib.Core.Logic.{◌↔◌, ⊎_elim}
use mathlib.Core.Bool.{Bool}
use mathlib.Core.List.{List}
use Prim.Native.Nat.{ℕ, ◌+◌, ◌-◌, ◌*◌, ◌≤◌, ◌<◌}
use native.Mathlib.Decide.{ℕ_discrete}
use native.Mathlib.Nat.{le_refl}
use native.Mathlib.Omega.{arith}
use lib.IntN.{ℤ, pos, ◌-ℤ◌}
use lib.ListN.{length, take, get_or, length-take}
use lib.Seq.{get_or-take}
use Rattle.numbers.specs.Finite.{sum_in}
use Rattle.numbers.specs.Word.{bit}
use Rattle.numbers.specs.Lists.{at}
use Rattle.numbers.specs.Rounding.{Rounded}
use Rattle.numbers.proofs.Finite.{sum_in_eq}
use Rattle.numbers.proofs.Rounding.{rounded_dec}
use Rattle.numbers.proofs.Finite.{all_or_one}
use Rattle.rules.specs.Bounds.{max_rows, max_slots}
use Rattle.rules.specs.Bus.{Table, overlap}
use Rattle.rules.specs.Line.{OverlapSet, Sets}
use Rattle.rules.specs.Loads.{hyperperiod, intervals, rate, share}
use Rattle.rules.specs.Planner.{Stage, due, finished, Planner, reached, Off, standing}
use Rattle.rules.proofs.Sets.{set_in}
use Rattle.table.specs.Sound.{Sound}
use Rattle.table.specs.Columns.{ByRow}
use Rattle.lags.specs.Lags.{Steady, NotOff}
use Rattle.lags.proofs.Intervals.{hyperperiod_positive, rate_le, start_mono, start_last}
use Rattle.planner.specs.Step.{Bounded, SetsKeep, KeepsStep, SpareClear, Stands}

-- ---- a table, as the code holds it

pub record Shown (t : Table) (n h : ℕ) (rates : List ℕ) (m : ℕ) (words : List ℕ) : Type 0 where
  pub rows : n ≡ t.rows
  pub hyper : h ≡ hyperperiod t
  pub by_row : ByRow t.rows (rate t) rates
  pub few : m ≤ max_rows
  pub size : length words ≡ max_rows
  pub list : Sets t (take m words)

-- the slot that a planner has reached lies in the hyperperiod
pub reached_le : {t : Table} → Sound t → (s : Stage) → ((k : ℕ) → s ≡ due k → k < intervals t) → reached t s ≤ hyperperiod t
reached_le {t} S (due k) f =
    omega (arith, start_mono S k (intervals t) (omega (arith, f k refl)) (le_refl (intervals t)), start_last S)
reached_le {t} S finished f = le_refl (hyperperiod t)

module _ {t : Table} {n h : ℕ} {rates : List ℕ} {m : ℕ} {words : List ℕ} (S : Shown t n h rates m words) where
  pub bounded : Sound t → hyperperiod t ≤ max_slots → (s : ℕ) → s ≤ hyperperiod t → Bounded n h s (at rates)
  bounded T short s l = record {
    few = omega (arith, S.rows, T.rows_high);
    some = omega (arith, S.hyper, hyperperiod_positive T);
    short = omega (arith, S.hyper);
    inside = omega (arith, S.hyper);
    light = λ i l.
        let k : i < t.rows = omega (arith, S.rows) in
        omega (arith, S.hyper, S.by_row.row i k, rate_le T i k);
  }

  -- ---- totals that keep step

  listed : length (take m words) ≡ m
  listed = simp length-take (omega (arith, S.few, S.size))

  word_set : (k : ℕ) → k < m → OverlapSet t.rows (overlap t) (bit (at words k))
  word_set k l = rw (get_or-take m words k 0 l) at (S.list.each k (omega (arith, listed)))

  module _ (s : ℕ) (totals : ℕ → ℕ) where
    row_at : (i : ℕ) → i < t.rows → Rounded (totals i) (at rates i * s) h ↔ Rounded (totals i) (share t i s) (hyperperiod t)
    row_at i l = rw (S.hyper, S.by_row.row i l) (λ r. r, λ r. r)

    set_at : (D : ℕ → Bool)
        → Rounded (sum_in n D totals) (sum_in n D (λ i. at rates i * s)) h
        ↔ Rounded (sum_in t.rows D totals) (sum_in t.rows D (λ i. share t i s)) (hyperperiod t)
    set_at D =
        rw (
          S.rows,
          S.hyper,
          sum_in_eq t.rows D D (λ i. at rates i * s) (λ i. share t i s)
              (λ i l. refl) (λ i l d. ap (λ (k : ℕ). k * s) (S.by_row.row i l)),
        ) (λ r. r, λ r. r)

    pub steady_is : KeepsStep n h s (at rates) m (at words) totals ↔ Steady t s totals
    steady_is = (
      λ k. record {
        rows = λ i l. (row_at i l).0 (k.rows i (omega (arith, S.rows)));
        sets = λ D o.
            let w = set_in S.list o in
            let l : w.0 < m = omega (arith, w.1, listed) in
            let e : bit (at words w.0) ≡ D = ap bit (sym (get_or-take m words w.0 0 l)) ∙ w.2 in
            (set_at D).0 (subst (λ (E : ℕ → Bool). Rounded (sum_in n E totals) (sum_in n E (λ i. at rates i * s)) h) e (k.sets w.0 l));
      },
      λ k. record {
        rows = λ i l. let j : i < t.rows = omega (arith, S.rows) in (row_at i j).1 (k.rows i j);
        sets = λ j l. (set_at (bit (at words j))).1 (k.sets (bit (at words j)) (word_set j l));
      },
    )

  -- ---- states that are off, and that are not

  pub off_spare : (p : Planner) → ¬ SpareClear n p.totals → Off t p
  off_spare p f =
      ⊎_elim
      (λ a. absurd (f (λ i l u. let e : n + (i - n) ≡ i = omega arith in rw e at (a (i - n) (omega arith)))))
      (λ w. Off.spare (n + w.0) (omega (arith, S.rows)) (omega (arith, w.1)) w.2)
      (all_or_one (λ j. p.totals (n + j) ≡ 0) (max_rows - n) (λ j l. ℕ_discrete (p.totals (n + j)) 0))

  module _ (p : Planner) {s : ℕ} (here : s ≡ reached t p.stage) where
    pub not_off_of : ((k : ℕ) → p.stage ≡ due k → k < intervals t) → SpareClear n p.totals
        → KeepsStep n h s (at rates) m (at words) p.totals → NotOff t p
    not_off_of number spare k = record {
      number = number;
      spare = λ i l. spare i (omega (arith, S.rows));
      steady = rw (← here) ((steady_is s p.totals).0 k);
    }

    off_set : ¬ SetsKeep n h s (at rates) m (at words) p.totals → Off t p
    off_set f =
        ⊎_elim
        (λ a. absurd (f a))
        (λ w. let D = bit (at words w.0) in
        Off.set D (word_set w.0 w.1) (rw (← here) (λ r. w.2 ((set_at s p.totals D).1 r))))
        (all_or_one _ m (λ k l. rounded_dec _ _ _))

    pub off_step : ¬ KeepsStep n h s (at rates) m (at words) p.totals → Off t p
    off_step f =
        ⊎_elim
        (λ a. off_set (λ b. f (record { rows = a; sets = b })))
        (λ w. let l : w.0 < t.rows = omega (arith, w.1, S.rows) in
        Off.row w.0 l (rw (← here) (λ r. w.2 ((row_at s p.totals w.0 l).1 r))))
        (all_or_one _ n (λ i l. rounded_dec _ _ _))

    -- ---- standings

    pub standings_are : (xs : List ℤ) → Stands n h s (at rates) p.totals xs
        → ((i : ℕ) → i < t.rows → get_or xs i (pos 0) ≡ standing t p i)
        × ((i : ℕ) → t.rows ≤ i → i < max_rows → get_or xs i (pos 0) ≡ pos 0)
    unfolding standing
    standings_are xs k = (
      λ i l.
          k.row i (omega (arith, S.rows))
          ∙ ap₂ (λ (a b : ℕ). pos (p.totals i * a) -ℤ pos b) S.hyper (ap₂ ◌*◌ (S.by_row.row i l) here),
      λ i l. k.rest i (omega (arith, S.rows)),
    )
