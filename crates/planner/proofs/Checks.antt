-- The planner's calls and the orders of their checks: what each answers on an admitted table, and what holds where nothing is refused.
use mathlib.Core.Path.{◌≡◌, refl}
use mathlib.Core.List.{List, []}
use Prim.Native.Nat.{ℕ, ◌-◌, ◌≤◌, ◌<◌}
use native.Mathlib.Omega.{arith}
use Rattle.rules.specs.Bus.{Table}
use Rattle.rules.specs.Loads.{hyperperiod, start, end}
use Rattle.rules.specs.Planner.{due, finished, Planner, Off}
use Rattle.rules.specs.Refusals.{
  Check,
  Answers,
  off_state,
  has_finished,
  short_output,
  plan_checks,
  step_room,
  step_checks,
  standings_checks,
}
use Rattle.rules.proofs.Answers.{None, Numbered, applied, passed, done, none_of, none_left, none_right, numbered_join}

-- ---- the call's own checks, of table t

module _ (t : Table) where
  pub plan_short : (room : ℕ) → room < hyperperiod t → Answers (plan_checks [] t room) 17 0
  unfolding plan_checks
  plan_short room l = applied (short_output (room < hyperperiod t)) [] 17 0 l refl refl

  pub plan_done : (room : ℕ) → hyperperiod t ≤ room → Answers (plan_checks [] t room) 0 0
  unfolding plan_checks
  plan_done room l = passed (short_output (room < hyperperiod t)) [] 0 0 (λ k. omega arith) done

  module _ (p : Planner) where
    pub standings_off : Off t p → Answers (standings_checks [] t p) 15 0
    unfolding standings_checks
    standings_off o = applied (off_state t p) [] 15 0 o refl refl

    pub standings_done : ¬ Off t p → Answers (standings_checks [] t p) 0 0
    unfolding standings_checks
    standings_done o = passed (off_state t p) [] 0 0 o done

    module _ (room : ℕ) where
      pub step_off : Off t p → Answers (step_checks [] t p room) 15 0
      unfolding step_checks
      step_off o = applied (off_state t p) _ 15 0 o refl refl

      module _ (o : ¬ Off t p) where
        pub step_finished : p.stage ≡ finished → Answers (step_checks [] t p room) 16 0
        unfolding step_checks
        step_finished e = passed (off_state t p) _ 16 0 o (applied (has_finished p) _ 16 0 e refl refl)

        module _ (k : ℕ) (is_due : p.stage ≡ due k) where
          not_finished : p.stage ≡ finished → ⊥
          not_finished e = let z : ◌≡◌ {A = ℕ} 0 1 = cc in omega arith

          asks : step_room t p.stage ≡ end t k - start t k
          asks = rw is_due

          pub step_short : room < end t k - start t k → Answers (step_checks [] t p room) 17 0
          unfolding step_checks
          step_short l =
              passed (off_state t p) _ 17 0 o
              (passed (has_finished p) _ 17 0 not_finished (applied (short_output _) [] 17 0 (omega (arith, asks)) refl refl))

          pub step_done : end t k - start t k ≤ room → Answers (step_checks [] t p room) 0 0
          unfolding step_checks
          step_done l =
              passed (off_state t p) _ 0 0 o
              (passed (has_finished p) _ 0 0 not_finished (passed (short_output _) [] 0 0 (λ h. omega (arith, asks)) done))

-- ---- nothing is refused

module _ (cs : List Check) (N : Numbered cs) (t : Table) where
  pub plan_passed : (room p : ℕ) → Answers (plan_checks cs t room) 0 p → None cs
  unfolding plan_checks Numbered
  plan_passed room p a = none_left cs _ (none_of (plan_checks cs t room) p (numbered_join cs _ N (omega arith)) a)

  pub standings_passed : (q : Planner) (p : ℕ) → Answers (standings_checks cs t q) 0 p → None cs × ¬ Off t q
  unfolding standings_checks Numbered None
  standings_passed q p a =
      let n = none_of (standings_checks cs t q) p (numbered_join cs _ N (omega arith)) a in
      (none_left cs _ n, (none_right cs _ n).0)
