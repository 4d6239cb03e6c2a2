-- What an interval done gives: it is a planner's step, only one list of words and one list of totals fit, and the totals keep step.
use mathlib.Core.Path.{◌≡◌, refl, sym, ap, ap₂, ◌∙◌}
use mathlib.Core.List.{List, ◌++◌}
use Prim.Native.Nat.{ℕ, ◌+◌, ◌-◌}
use lib.ListN.{take-append-drop}
use lib.Seq.{ext_get_or}
use Rattle.rules.specs.Bus.{Table}
use Rattle.rules.specs.Loads.{start, end}
use Rattle.rules.specs.Planner.{due, Planner, next, Step}
use Rattle.rules.proofs.Plans.{step_only}
use Rattle.lags.specs.Lags.{Steady}
use Rattle.lags.proofs.Lags.{steady_eq, steady_next}
use Rattle.interval.specs.Interval.{Moved}
use Rattle.interval.specs.Ready.{Advanced}

-- ---- a step

pub step_of_moved : {t : Table} {p q : Planner} {k : ℕ} {ws : List ℕ} → p.stage ≡ due k → q.stage ≡ next t k
    → Moved t k p.totals q.totals ws → Step t p q ws
step_of_moved {k = k} e f M = record {
  interval = k;
  is_due = e;
  loads = M.loads;
  greatest = M.greatest;
  words = M.words;
  placed = M.placed;
  moved = M.moved;
  spare = M.spare;
  after = f;
}

-- ---- only one answer fits

module _ {t : Table} {k : ℕ} {had : ℕ → ℕ} {now then : ℕ → ℕ} {ws vs : List ℕ} (M : Moved t k had now ws) (N : Moved t k had then vs) where
  abbrev after : (ℕ → ℕ) → Planner
  after totals = record { stage = next t k; totals = totals }

  -- as steps from interval k due
  same : (after now ≡ after then) × (ws ≡ vs)
  same = step_only {p = record { stage = due k; totals = had }} (step_of_moved refl refl M) (step_of_moved refl refl N)

  pub moved_words : ws ≡ vs
  moved_words = same.1

  pub moved_totals : (i : ℕ) → now i ≡ then i
  moved_totals i = ap (λ (p : Planner). p.totals i) same.0

pub advanced_only : {t : Table} {k : ℕ} {had now then was out to : List ℕ} → Advanced t k had now was out → Advanced t k had then was to
    → (now ≡ then) × (out ≡ to)
advanced_only {t} {k} {had} {now} {then} {was} {out} {to} A B =
    let l : ℕ = end t k - start t k in (
      ext_get_or 0 now then (A.size ∙ sym B.size) (λ i h. moved_totals A.moved B.moved i),
      sym (take-append-drop l out) ∙ ap₂ ◌++◌ (moved_words A.moved B.moved) (A.kept.rest ∙ sym B.kept.rest)
          ∙ take-append-drop l to,
    )

-- ---- the totals after it

pub moved_steady : {t : Table} {k : ℕ} {had now : ℕ → ℕ} {ws : List ℕ} → Moved t k had now ws → Steady t (end t k) now
moved_steady {t} {k} {had} {now} M =
    steady_eq t (end t k) (λ i. had i + M.loads i) now (λ i l. sym (M.moved i l)) (steady_next M.greatest.qualify)
