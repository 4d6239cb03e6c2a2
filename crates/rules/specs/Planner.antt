-- Document 01, "The planner", and what "Loads of one interval, and its slots" says of steps and the whole plan.
--
--   Stage              due, with the number of the next interval, or finished
--   Planner            a stage, and beside it the totals, one for each row
--   fresh              interval 0 due and all totals 0
--   reached t s        the first slot of the interval due, or h when finished
--   Off t p            the planner's state is off
--   standing t p i     row i's standing
--   Step t p q ws      a step from p writes ws and hands back q, by the greatest loads that qualify (#110)
--   Run t k q ws       k steps from fresh write ws, joined in order, and hand back q
--   WholePlan t ws     ws is what a fresh planner's steps write
use Rattle.std.specs.Prelude.{◌≡◌, ◌≢◌, List, [], ◌++◌, Bool, cond, ℕ, zero, suc, ◌+◌, ◌-◌, ◌*◌, ◌≤◌, ◌<◌, eqb, ℤ, pos, ◌-ℤ◌}
use Rattle.numbers.specs.Finite.{sum_in, count}
use Rattle.numbers.specs.Rounding.{Rounded}
use Rattle.rules.specs.Bounds.{max_rows}
use Rattle.rules.specs.Bus.{Table, overlap}
use Rattle.rules.specs.Line.{OverlapSet, line_first}
use Rattle.rules.specs.Loads.{hyperperiod, start, end, intervals, share}
use Rattle.rules.specs.Interval.{Qualify, Greatest, moves, SlotWords}

pub data Stage : Type 0 where
  due : ℕ → Stage
  finished : Stage

pub record Planner : Type 0 where
  pub stage : Stage
  pub totals : ℕ → ℕ

abbrev pub fresh : Planner
fresh = record { stage = due 0; totals = λ i. 0 }

abbrev pub reached : Table → Stage → ℕ
reached t (due k) = start t k
reached t finished = hyperperiod t

pub data Off (t : Table) (p : Planner) : Type 0 where
  late : (k : ℕ) → p.stage ≡ due k → intervals t ≤ k → Off t p
  spare : (i : ℕ) → t.rows ≤ i → i < max_rows → p.totals i ≢ 0 → Off t p
  row : (i : ℕ) → i < t.rows → ¬ Rounded (p.totals i) (share t i (reached t p.stage)) (hyperperiod t) → Off t p
  set : (D : ℕ → Bool) → OverlapSet t.rows (overlap t) D
      → ¬ Rounded (sum_in t.rows D p.totals) (sum_in t.rows D (λ i. share t i (reached t p.stage))) (hyperperiod t) → Off t p

-- Total × h − (h / period) × cost × slot: above zero it is ahead, below zero behind.
unfoldable pub standing : Table → Planner → ℕ → ℤ
standing t p i = pos (p.totals i * hyperperiod t) -ℤ pos (share t i (reached t p.stage))

-- After the last interval it is finished.
abbrev pub next : Table → ℕ → Stage
next t k = cond (eqb (k + 1) (intervals t)) finished (due (k + 1))

pub record Step (t : Table) (p q : Planner) (ws : List ℕ) : Type 0 where
  pub interval : ℕ
  pub is_due : p.stage ≡ due interval
  pub loads : ℕ → ℕ
  pub greatest : Greatest t.rows (Qualify t interval p.totals) loads
  pub words : SlotWords t.rows (overlap t) (line_first t) loads (end t interval - start t interval) ws
  -- Every load is placed whole, so totals are slots really moved in.
  pub placed : (i : ℕ) → i < t.rows → count (end t interval - start t interval) (moves ws i) ≡ loads i
  pub moved : (i : ℕ) → i < t.rows → q.totals i ≡ p.totals i + loads i
  pub spare : (i : ℕ) → t.rows ≤ i → q.totals i ≡ p.totals i
  pub after : q.stage ≡ next t interval

pub data Run (t : Table) : ℕ → Planner → List ℕ → Type 0 where
  none : Run t zero fresh []
  more : {k : ℕ} {p q : Planner} {vs ws : List ℕ} → Run t k p vs → Step t p q ws → Run t (suc k) q (vs ++ ws)

abbrev pub WholePlan : Table → List ℕ → Type 0
WholePlan t ws = (q : Planner) × Run t (intervals t) q ws
