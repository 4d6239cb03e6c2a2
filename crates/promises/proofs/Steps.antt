-- What a step promises from any state that isn't off, and the first steps of a fresh planner, proved.
use mathlib.Core.Path.{◌≡◌, sym, ap, ◌∙◌, subst}
use mathlib.Core.Logic.{⊎_elim}
use mathlib.Core.List.{List}
use Prim.Native.Nat.{ℕ, ◌+◌, ◌*◌, ◌≤◌, ◌<◌}
use native.Mathlib.Nat.{eq-or-lt_of_le}
use native.Mathlib.Omega.{arith}
use lib.ListN.{length}
use Rattle.numbers.specs.Finite.{count}
use Rattle.numbers.specs.Rounding.{Rounded}
use Rattle.rules.specs.Bus.{Table}
use Rattle.rules.specs.Loads.{start, end, intervals}
use Rattle.rules.specs.Interval.{moves}
use Rattle.rules.specs.Planner.{Planner, fresh, reached, Step, Run, none, more}
use Rattle.lags.specs.Lags.{Admissible, NotOff}
use Rattle.lags.proofs.Intervals.{end_next, end_far, start_last}
use Rattle.lags.proofs.Lags.{rounded_share}
use Rattle.lags.proofs.States.{not_off, next_reached, not_off_next}
use Rattle.promises.specs.Steps.{Serves, StepServes, RunServes}
use Rattle.promises.proofs.Words.{words_apart}
use Rattle.promises.proofs.Plans.{Ran, ran}

module _ {t : Table} (A : Admissible t) where
  -- ---- one step

  serves_interval : {p q : Planner} {ws : List ℕ} → NotOff t p → (s : Step t p q ws)
      → Serves t (start t s.interval) (end t s.interval) p q ws
  serves_interval {p} {q} {ws} n s = record {
    size = omega (arith, s.words.size, end_far A.sound s.interval in_range);
    rows = s.words.rows;
    apart = words_apart A s.words;
    totals = λ i l.
        s.moved i l
        ∙ ap (λ (m : ℕ). p.totals i + m) (sym (s.placed i l) ∙ ap (λ (m : ℕ). count m (moves ws i)) (sym s.words.size));
    shares = λ i l.
        (rounded_share A.sound (q.totals i) i (end t s.interval) l).0 (rw (s.moved i l) (s.greatest.qualify.rows i l));
    reaches = ap (reached t) s.after ∙ next_reached A.sound s.interval in_range;
    not_off = not_off.1 (not_off_next A n s);
  }
    where
      in_range : s.interval < intervals t
      in_range = n.number s.interval s.is_due

  -- ---- the first steps of a fresh planner

  -- there are no more steps than intervals
  run_in_range : {k : ℕ} {q : Planner} {ws : List ℕ} → Run t k q ws → k ≤ intervals t
  run_in_range none = omega arith
  run_in_range (more {k = k} {p = p} r s) =
      let le : k ≤ intervals t = run_in_range r in
      ⊎_elim
      (λ (e : k ≡ intervals t).
      let f = (ran A le r).done e in
      let d = s.is_due in
      let z : ◌≡◌ {A = ℕ} 0 1 = cc in
      absurd (let y : ⊥ = omega arith in y))
      (λ (l : k < intervals t). l)
      (eq-or-lt_of_le le)

  module _ {k : ℕ} {q : Planner} {ws : List ℕ} (in_range : k ≤ intervals t) (R : Ran t k q ws) where
    -- where an interval has ended, each row has had its share
    pub ran_shares : (i m : ℕ) → i < t.rows → m < k → Rounded (count (end t m) (moves ws i)) (t.cost i * end t m) (t.period i)
    ran_shares i m l h =
        (rounded_share A.sound (count (end t m) (moves ws i)) i (end t m) l).0
        (rw (end_next A.sound m) ((R.steady (m + 1) (omega arith)).rows i l))

    ran_reaches : reached t q.stage ≡ start t k
    ran_reaches =
        ⊎_elim
        (λ (e : k ≡ intervals t). ap (reached t) (R.done e) ∙ sym (start_last A.sound) ∙ ap (start t) (sym e))
        (λ (l : k < intervals t). ap (reached t) (R.stage l))
        (eq-or-lt_of_le in_range)

    ran_serves : Serves t 0 (start t k) fresh q ws
    ran_serves = record {
      size = omega (arith, R.size);
      rows = R.rows;
      apart = R.apart;
      totals = λ i l.
          let n : count (length ws) (moves ws i) ≡ q.totals i = ap (λ (m : ℕ). count m (moves ws i)) R.size ∙ R.totals i l in
          omega (arith, n);
      shares = λ i l.
          (rounded_share A.sound (q.totals i) i (start t k) l).0 (rw (← R.totals i l) ((R.steady k (omega arith)).rows i l));
      reaches = ran_reaches;
      not_off = not_off.1 R.not_off;
    }

pub step_serves : StepServes
step_serves t p q k ws A o d s =
    let e : s.interval ≡ k = let a = s.is_due in cc in
    subst (λ (m : ℕ). Serves t (start t m) (end t m) p q ws) e (serves_interval A (not_off.0 o) s)

pub run_serves : RunServes
run_serves t k q ws A r =
    let le = run_in_range A r in
    let R = ran A le r in
    record { serves = ran_serves A le R; shares = ran_shares A le R }
