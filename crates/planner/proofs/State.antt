-- The code's planner is known by document 01's.
use mathlib.Core.Path.{◌≡◌, refl, ap, ap₂}
use mathlib.Core.List.{List}
use Prim.Native.Nat.{ℕ}
use native.Mathlib.Omega.{arith}
use lib.ListN.{length}
use lib.Seq.{ext_get_or}
use Rattle.numbers.proofs.Lists.{zeros_at}
use Rattle.rules.specs.Bounds.{max_rows}
use Rattle.rules.specs.Planner as rules
use Rattle.rules.proofs.Plans.{planner_same}
use Rattle.planner.specs.declared.Stage.{Stage}
use Rattle.planner.specs.declared.Stage.TheVariants.{Due, Finished}
use Rattle.planner.specs.declared.Planner.{Planner}
use Rattle.planner.specs.State.{stage_of, planner_of, fresh_planner}

pub fresh_is : planner_of fresh_planner ≡ rules.fresh
fresh_is = planner_same refl (zeros_at max_rows)

pub stage_same : (s u : Stage) → stage_of s ≡ stage_of u → s ≡ u
stage_same (Due k) (Due m) e = let z : k ≡ m = cc in ap Due z
stage_same (Due k) Finished e = absurd (let z : ◌≡◌ {A = ℕ} 0 1 = cc in omega arith)
stage_same Finished (Due m) e = absurd (let z : ◌≡◌ {A = ℕ} 0 1 = cc in omega arith)
stage_same Finished Finished e = refl

pub state_same : (p q : Planner) → length p.totals ≡ length q.totals → planner_of p ≡ planner_of q → p ≡ q
state_same p q l e =
    ap₂ (λ (s : Stage) (xs : List ℕ). record { stage = s; totals = xs })
    (stage_same p.stage q.stage (ap (λ (r : rules.Planner). r.stage) e))
    (ext_get_or 0 p.totals q.totals l (λ i h. ap (λ (r : rules.Planner). r.totals i) e))
