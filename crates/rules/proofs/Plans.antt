-- Document 02, #110: the loads of an interval, a step and the whole plan are one at most.
--
--   greatest_only      only one choice of loads is the greatest
--   planner_same       a planner is known by its stage and totals
--   step_only          only one planner and one list of words come of a step
--   run_only           and of so many steps from fresh
--   plan_only          a table has one whole plan at most
use mathlib.Core.Path.{◌≡◌, refl, sym, ap, ap₂, ◌∙◌, subst, fun_ext}
use mathlib.Core.Logic.{⊎_elim}
use mathlib.Core.List.{List, [], ◌++◌}
use Prim.Native.Nat.{ℕ, zero, suc, ◌-◌, ◌<◌}
use native.Mathlib.Nat.{le_refl, not-suc-le-zero}
use native.Mathlib.Omega.{arith}
use Rattle.numbers.proofs.Truth.{le_or_lt}
use Rattle.rules.specs.Bus.{Table, overlap}
use Rattle.rules.specs.Line.{line_first}
use Rattle.rules.specs.Loads.{start, end, intervals}
use Rattle.rules.specs.Interval.{Greatest}
use Rattle.rules.specs.Planner.{Stage, Planner, fresh, next, Step, Run, none, more, WholePlan}
use Rattle.rules.proofs.Interval.{words_only}

-- ---- the loads

pub greatest_only : {n : ℕ} {Q : (ℕ → ℕ) → Type 0} {x y : ℕ → ℕ} → Greatest n Q x → Greatest n Q y → (i : ℕ) → i < n → x i ≡ y i
greatest_only {n} {Q} {x} {y} G H i l = go (suc i) i (le_refl (suc i)) l
  where
    -- by recursion on a bound of the row
    go : (b i : ℕ) → i < b → i < n → x i ≡ y i
    go zero i m l = absurd (not-suc-le-zero m)
    go (suc b) i m l =
        let before : (j : ℕ) → j < i → x j ≡ y j = λ j r. go b j (omega arith) (omega arith) in
        omega (arith, G.most y H.qualify i l (λ j r. sym (before j r)), H.most x G.qualify i l before)

-- ---- a step

pub planner_same : {p q : Planner} → p.stage ≡ q.stage → ((i : ℕ) → p.totals i ≡ q.totals i) → p ≡ q
planner_same s h = ap₂ (λ (s : Stage) (f : ℕ → ℕ). record { stage = s; totals = f }) s (fun_ext h)

-- two steps in the same interval
module _ {t : Table} {p q r : Planner} {ws vs : List ℕ} (a : Step t p q ws) (b : Step t p r vs) (e : b.interval ≡ a.interval) where
  loads_same : (i : ℕ) → i < t.rows → a.loads i ≡ b.loads i
  loads_same = greatest_only a.greatest (rw e at b.greatest)

  words_same : ws ≡ vs
  words_same =
      words_only t.rows (overlap t) (line_first t) a.loads b.loads (end t a.interval - start t a.interval) loads_same ws vs
      a.words (rw e at b.words)

  totals_same : (i : ℕ) → q.totals i ≡ r.totals i
  totals_same i =
      ⊎_elim (λ h. a.spare i h ∙ sym (b.spare i h))
      (λ h. omega (arith, a.moved i h, b.moved i h, loads_same i h))
      (le_or_lt t.rows i)

module _ {t : Table} where
  pub step_only : {p q r : Planner} {ws vs : List ℕ} → Step t p q ws → Step t p r vs → (q ≡ r) × (ws ≡ vs)
  step_only a b =
      let e : b.interval ≡ a.interval = let x = a.is_due in let y = b.is_due in cc in
      (planner_same (a.after ∙ ap (next t) (sym e) ∙ sym b.after) (totals_same a b e), words_same a b e)

  -- ---- the whole plan

  pub run_none : {q : Planner} {ws : List ℕ} → Run t zero q ws → (q ≡ fresh) × (ws ≡ [])
  run_none none = (refl, refl)

  pub run_more : {k : ℕ} {q : Planner} {ws : List ℕ} → Run t (suc k) q ws
      → (p : Planner) × (vs : List ℕ) × (us : List ℕ) × Run t k p vs × Step t p q us × (ws ≡ vs ++ us)
  run_more (more {p = p} {vs = vs} {ws = us} r s) = (p, vs, us, r, s, refl)

  pub run_only : (k : ℕ) {q r : Planner} {ws vs : List ℕ} → Run t k q ws → Run t k r vs → (q ≡ r) × (ws ≡ vs)
  run_only zero a b = let x = run_none a in let y = run_none b in (x.0 ∙ sym y.0, x.1 ∙ sym y.1)
  run_only (suc k) {q} {r} a b =
      let x = run_more a in
      let y = run_more b in
      let z = run_only k x.3 y.3 in
      let w = step_only x.4 (subst (λ (p : Planner). Step t p r y.2) (sym z.0) y.4) in
      (w.0, x.5 ∙ ap₂ ◌++◌ z.1 w.1 ∙ sym y.5)

pub plan_only : (t : Table) (ws vs : List ℕ) → WholePlan t ws → WholePlan t vs → ws ≡ vs
plan_only t ws vs a b = (run_only (intervals t) a.1 b.1).1
