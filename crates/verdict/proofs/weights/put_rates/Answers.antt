-- put_rates: row after row's rate is put in its place; the jobs are those of the period before.
use Rattle.std.proofs.Common.{sym, ap, ap₂, ◌∙◌, Bool, ℕ, ◌*◌, ◌/◌, ◌≤◌, arith}
use native.Mathlib.Nat.{div-one, div-mul-le_self, mul-le-mul_left}
use lib.Dec.{ltb}
use Rattle.numbers.specs.Lists.{at}
use Rattle.rules.specs.Bounds.{max_slots}
use Rattle.table.proofs.ByRow.{by_row_start, by_row_put}
use Rattle.verdict.specs.Weights.{next_lowest}
use Rattle.verdict.proofs.Weighing.{lowest_start, lowest_next}
use Rattle.verdict.proofs.weights.put_rates.Goals as goal

pub loop-i-init : goal.loop-i-init
loop-i-init c = (rw c.requires.3 (by_row_start _), sym (div-one c.args.hyper), lowest_start _)

-- a row has no more than all h slots
rate-low : (j : goal.After-jobs_in-jobs) → j.jobs_in-jobs.result * j.slots_at-own.result ≤ max_slots
rate-low j =
    let high : j.slots_at-own.result ≤ j.slots_at-next.result =
    omega (arith, j.slots_at-own.ensures, j.slots_at-next.ensures, j.requires.0.cost_high j.loop-i.i (omega arith)) in
    let few : j.jobs_in-jobs.result * j.slots_at-own.result ≤ j.args.hyper / j.slots_at-next.result * j.slots_at-next.result =
    rw j.jobs_in-jobs.ensures (mul-le-mul_left (j.args.hyper / j.slots_at-next.result) high) in
    omega (arith, few, div-mul-le_self j.args.hyper j.slots_at-next.result, j.requires.1)

pub overflow_mul-rate : goal.overflow_mul-rate
overflow_mul-rate c = omega (arith, rate-low c)

pub overflow_cast-rate : goal.overflow_cast-rate
overflow_cast-rate c = omega (arith, rate-low c)

pub loop-i-preserved : goal.loop-i-preserved
loop-i-preserved c =
    let a = c.args in (
      by_row_put _ c.loop-i.invariant.0 (omega arith)
          (ap₂ (λ (x y : ℕ). x * y) (c.jobs_in-jobs.ensures ∙ ap (λ (x : ℕ). a.hyper / x) c.slots_at-next.ensures)
          c.slots_at-own.ensures),
      c.jobs_in-jobs.ensures,
      c.lowest_next-light.ensures
          ∙ ap₂ (λ (x : ℕ) (y : Bool). next_lowest x c.loop-i.i y) c.loop-i.invariant.2
          (c.is_light.ensures
          ∙ ap₂ (λ (x y : ℕ). ltb (x * a.interval) y) c.slots_at-own.ensures c.slots_at-next.ensures)
          ∙ sym (lowest_next c.loop-i.i (λ k. ltb (at a.cost.now k * a.interval) (at a.period.now k))),
    )
