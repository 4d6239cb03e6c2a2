-- Demand 3, proved of every whole plan of an admitted table.
use mathlib.Core.Path.{◌≡◌, refl, sym, ap, ◌∙◌}
use mathlib.Core.List.{List}
use Prim.Native.Nat.{ℕ, ◌+◌, ◌*◌, ◌/◌, ◌%◌, ◌≤◌, ◌<◌}
use native.Mathlib.Nat.{le_refl, mod-lt, mul-le-mul_right, lt_of_mul-lt-mul_right}
use native.Mathlib.Omega.{arith}
use lib.ListN.{length}
use Rattle.numbers.specs.Finite.{count}
use Rattle.numbers.proofs.Finite.{count_eq, count_split}
use Rattle.rules.specs.Bus.{Table}
use Rattle.rules.specs.Loads.{hyperperiod, intervals}
use Rattle.rules.specs.Interval.{moves}
use Rattle.rules.specs.Planner.{finished, WholePlan}
use Rattle.lags.specs.Lags.{Admissible}
use Rattle.lags.proofs.Intervals.{hyperperiod_positive, periods_whole, start_last, multiple_starts}
use Rattle.lags.proofs.Lags.{row_whole}
use Rattle.promises.specs.Demands.{endless, moved, PlanCarries}
use Rattle.promises.proofs.Counts.{stretch_of}
use Rattle.promises.proofs.Plans.{Ran, ran}
use Rattle.promises.proofs.Steps.{ran_shares}

module _ {t : Table} (A : Admissible t) {ws : List ℕ} (W : WholePlan t ws) where
  whole_ran : Ran t (intervals t) W.0 ws
  whole_ran = ran A (le_refl (intervals t)) W.1

  pub plan_size : length ws ≡ hyperperiod t
  plan_size = whole_ran.size ∙ start_last A.sound

  -- it takes the planner to its end
  pub plan_finished : W.0.stage ≡ finished
  plan_finished = whole_ran.done refl

  -- after m of its periods a row has moved in m times its cost slots
  pub plan_whole : (i m : ℕ) → i < t.rows → m * t.period i ≤ hyperperiod t → count (m * t.period i) (moves ws i) ≡ t.cost i * m
  plan_whole i m l h =
      let r = multiple_starts A.sound i m l h in
      ap (λ (s : ℕ). count s (moves ws i)) (sym r.2) ∙ row_whole A (whole_ran.steady r.0 r.1) i m l r.2

  -- stretch j of the plan repeated for ever is one of the first, and those are what the row has had between two multiples of its period
  pub plan_jobs : (i j : ℕ) → i < t.rows → moved ws i (j * t.period i) ((j + 1) * t.period i) ≡ t.cost i
  plan_jobs i j l =
      let p : ℕ = t.period i in
      let q : ℕ = hyperperiod t / p in
      let b : ℕ = j % q in
      let all : q * p ≡ hyperperiod t = periods_whole A.sound i l in
      let some : 0 < q = lt_of_mul-lt-mul_right p (omega (arith, hyperperiod_positive A.sound)) in
      let next : (b + 1) * p ≤ q * p = mul-le-mul_right p (omega (arith, mod-lt j some)) in
      let more : b * p + p ≡ (b + 1) * p = omega arith in
      let slot : (s : ℕ) → s < p → endless ws i (j * p + s) ≡ moves ws i (b * p + s) =
      λ s k. ap (moves ws i) (ap (λ (m : ℕ). (j * p + s) % m) (plan_size ∙ sym all) ∙ stretch_of p q j s some k) in
      ap (λ (m : ℕ). count m (λ s. endless ws i (j * p + s))) (omega arith)
      ∙ count_eq p (λ s. endless ws i (j * p + s)) (λ s. moves ws i (b * p + s)) slot
      ∙ omega (
        arith,
        count_split (b * p) p (moves ws i),
        ap (λ (m : ℕ). count m (moves ws i)) more,
        plan_whole i b l (omega arith),
        plan_whole i (b + 1) l (omega arith),
      )

pub plan_carries : PlanCarries
plan_carries t ws A W = record {
  size = plan_size A W;
  rows = (whole_ran A W).rows;
  apart = (whole_ran A W).apart;
  shares = ran_shares A (le_refl (intervals t)) (whole_ran A W);
  jobs = plan_jobs A W;
}
