-- The planner's state (document 01, "The planner"): a fresh one is not off, steps keep it so, and standings lie strictly between −h and h.
use mathlib.Core.Path.{◌≡◌, refl, sym, ap, ◌∙◌}
use mathlib.Core.Logic.{◌↔◌, ◌≢◌, ⊎_elim}
use mathlib.Core.List.{List}
use Prim.Native.Nat.{ℕ, zero, suc, ◌+◌, ◌*◌, ◌/◌, ◌<◌}
use native.Mathlib.Nat.{eq-or-lt_of_le}
use native.Mathlib.Omega.{arith}
use lib.Dec.{eqb, eqb→eq}
use lib.IntN.{pos, neg_ℤ}
use lib.Signed.{◌<ℤ◌}
use Rattle.numbers.proofs.Truth.{is_true, is_false, eqb_of, le_or_lt}
use Rattle.numbers.proofs.Signed.{diff_below, diff_above}
use Rattle.numbers.proofs.Rounding.{rounded_stable}
use Rattle.rules.specs.Bus.{Table}
use Rattle.rules.specs.Loads.{hyperperiod, start, end, intervals}
use Rattle.rules.specs.Planner.{due, finished, Planner, fresh, reached, Off, standing, next, Step}
use Rattle.table.specs.Sound.{Sound}
use Rattle.lags.specs.Lags.{Admissible, Steady, NotOff}
use Rattle.lags.proofs.Lags.{steady_eq, row_ahead, row_behind, row_whole, steady_fresh, steady_next}
use Rattle.lags.proofs.Intervals.{periods_whole, start_first, end_next, start_last, intervals_positive}

-- ---- the planner's state

pub not_off : {t : Table} {p : Planner} → (Off t p → ⊥) ↔ NotOff t p
not_off {t} {p} = (
  λ f. record {
    number = λ k e. ⊎_elim (λ l. absurd (f (Off.late k e l))) (λ l. l) (le_or_lt (intervals t) k);
    spare = λ i l m. zero_of (p.totals i) (λ ne. f (Off.spare i l m ne));
    steady = record {
      rows = λ i l. rounded_stable _ _ _ (λ ne. f (Off.row i l ne));
      sets = λ D o. rounded_stable _ _ _ (λ ne. f (Off.set D o ne));
    };
  },
  keeps,
)
  where
    zero_of : (n : ℕ) → ¬ (n ≢ 0) → n ≡ 0
    zero_of zero h = refl
    zero_of (suc n) h = absurd (h (λ e. omega arith))

    keeps : NotOff t p → Off t p → ⊥
    keeps g (Off.late k e l) = let z = g.number k e in omega arith
    keeps g (Off.spare i l m ne) = ne (g.spare i l m)
    keeps g (Off.row i l ne) = ne (g.steady.rows i l)
    keeps g (Off.set D o ne) = ne (g.steady.sets D o)

-- ---- the stage after an interval

pub next_due : (t : Table) (k : ℕ) → k + 1 < intervals t → next t k ≡ due (k + 1)
next_due t k l = rw (is_false (eqb (k + 1) (intervals t)) (λ e. omega (arith, eqb→eq (k + 1) (intervals t) e)))

pub next_finished : (t : Table) (k : ℕ) → k + 1 ≡ intervals t → next t k ≡ finished
next_finished t k e = rw (is_true (eqb (k + 1) (intervals t)) (eqb_of (k + 1) (intervals t) e))

pub next_reached : {t : Table} → Sound t → (k : ℕ) → k < intervals t → reached t (next t k) ≡ end t k
next_reached {t} S k l =
    ⊎_elim
    (λ e. ap (reached t) (next_finished t k e) ∙ sym (start_last S) ∙ ap (start t) (sym e) ∙ sym (end_next S k))
    (λ m. ap (reached t) (next_due t k m) ∙ sym (end_next S k))
    (eq-or-lt_of_le (omega arith))

pub next_number : (t : Table) (k m : ℕ) → k < intervals t → next t k ≡ due m → m < intervals t
next_number t k m l e =
    ⊎_elim
    (λ (q : k + 1 ≡ intervals t). let f = next_finished t k q in let z : ◌≡◌ {A = ℕ} 0 1 = cc in omega arith)
    (λ (q : k + 1 < intervals t). let f = next_due t k q in let z : k + 1 ≡ m = cc in omega arith)
    (eq-or-lt_of_le (omega arith))

module _ {t : Table} (A : Admissible t) where
  -- ---- states that are not off

  pub not_off_fresh : NotOff t fresh
  not_off_fresh = record {
    number = λ k e. let z : k ≡ 0 = cc in omega (arith, intervals_positive A.sound);
    spare = λ i l m. refl;
    steady = rw (start_first A.sound) (steady_fresh A);
  }

  -- a step from a state that is not off leads to one that is not off
  pub not_off_next : {p q : Planner} {ws : List ℕ} → NotOff t p → Step t p q ws → NotOff t q
  not_off_next {p} {q} n s =
      let k = s.interval in
      let l : k < intervals t = n.number k s.is_due in
      let e : reached t q.stage ≡ end t k = ap (reached t) s.after ∙ next_reached A.sound k l in
      record {
        number = λ m e. next_number t k m l (sym s.after ∙ e);
        spare = λ i le lt. s.spare i le ∙ n.spare i le lt;
        steady =
            rw e
            (steady_eq t (end t k) (λ i. p.totals i + s.loads i) q.totals (λ i r. sym (s.moved i r))
            (steady_next s.greatest.qualify));
      }

  -- ---- standings

  module _ {p : Planner} (n : NotOff t p) (i : ℕ) (l : i < t.rows) where
    pub standing_below : standing t p i <ℤ pos (hyperperiod t)
    unfolding standing
    standing_below = diff_below _ _ (hyperperiod t) (row_ahead A n.steady i l)

    pub standing_above : neg_ℤ (pos (hyperperiod t)) <ℤ standing t p i
    unfolding standing
    standing_above = diff_above _ _ (hyperperiod t) (row_behind A n.steady i l)

    -- finished: exactly the cost of every job
    pub finished_total : p.stage ≡ finished → p.totals i ≡ t.cost i * (hyperperiod t / t.period i)
    finished_total e =
        let st : Steady t (hyperperiod t) p.totals = rw e at n.steady in
        row_whole A st i (hyperperiod t / t.period i) l (sym (periods_whole A.sound i l))
