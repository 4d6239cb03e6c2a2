-- Demand 3: what the whole plan of an admitted table promises. The file holds statements only; `proofs/Demands.antt` proves `PlanCarries`.
--
--   endless ws i s     row i moves in slot s, where the plan ws is repeated for ever from slot 0
--   moved ws i a b     how many of the slots from a up to b it moves in then
--   Carries t ws       the plan ws carries the table t
use Rattle.std.specs.Prelude.{◌≡◌, List, Bool, ℕ, ◌+◌, ◌-◌, ◌*◌, ◌%◌, ◌<◌, T, length}
use Rattle.numbers.specs.Finite.{count}
use Rattle.numbers.specs.Rounding.{Rounded}
use Rattle.rules.specs.Bus.{Table, overlap}
use Rattle.rules.specs.Loads.{hyperperiod, end, intervals}
use Rattle.rules.specs.Interval.{moves}
use Rattle.rules.specs.Planner.{WholePlan}
use Rattle.lags.specs.Lags.{Admissible}

abbrev pub endless : List ℕ → ℕ → ℕ → Bool
endless ws i s = moves ws i (s % length ws)

abbrev pub moved : List ℕ → ℕ → ℕ → ℕ → ℕ
moved ws i a b = count (b - a) (λ s. endless ws i (a + s))

pub record Carries (t : Table) (ws : List ℕ) : Type 0 where
  -- The plan has one word for each slot of the hyperperiod, and shows rows of the table only.
  pub size : length ws ≡ hyperperiod t
  pub rows : (i s : ℕ) → T (moves ws i s) → i < t.rows
  -- Rows whose routes share a segment never share a slot.
  pub apart : (i j s : ℕ) → T (overlap t i j) → T (moves ws i s) → T (moves ws j s) → i ≡ j
  -- At the end of every planning interval each row has had its share, cost × slot / period, rounded down or up.
  pub shares : (i k : ℕ) → i < t.rows → k < intervals t → Rounded (count (end t k) (moves ws i)) (t.cost i * end t k) (t.period i)
  -- With the plan repeated for ever, each job moves in exactly cost slots from its arrival up to its deadline.
  pub jobs : (i j : ℕ) → i < t.rows → moved ws i (j * t.period i) ((j + 1) * t.period i) ≡ t.cost i

abbrev pub PlanCarries : Type 0
PlanCarries = (t : Table) (ws : List ℕ) → Admissible t → WholePlan t ws → Carries t ws
