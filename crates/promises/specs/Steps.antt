-- What a step promises from any state that isn't off, and what the first steps of a fresh planner promise. The file holds statements only;
-- `proofs/Steps.antt` proves them.
--
--   Serves t a b p q ws    the words ws of the slots from a up to b take the planner p to q
--   StepServes            a step's words do, for the slots of its interval
--   RunServes             the words of a fresh planner's first steps do, joined
use Rattle.std.specs.Prelude.{◌≡◌, List, ℕ, ◌+◌, ◌*◌, ◌<◌, T, length}
use Rattle.numbers.specs.Finite.{count}
use Rattle.numbers.specs.Rounding.{Rounded}
use Rattle.rules.specs.Bus.{Table, overlap}
use Rattle.rules.specs.Loads.{start, end}
use Rattle.rules.specs.Interval.{moves}
use Rattle.rules.specs.Planner.{due, Planner, fresh, reached, Off, Step, Run}
use Rattle.lags.specs.Lags.{Admissible}

pub record Serves (t : Table) (a b : ℕ) (p q : Planner) (ws : List ℕ) : Type 0 where
  -- There is one word for each slot, and they show rows of the table only.
  pub size : a + length ws ≡ b
  pub rows : (i s : ℕ) → T (moves ws i s) → i < t.rows
  -- Rows whose routes share a segment never share a slot.
  pub apart : (i j s : ℕ) → T (overlap t i j) → T (moves ws i s) → T (moves ws j s) → i ≡ j
  -- Each row's slots in the words are its total after less its total before.
  pub totals : (i : ℕ) → i < t.rows → q.totals i ≡ p.totals i + count (length ws) (moves ws i)
  -- At slot b each row has had its share, cost × slot / period, rounded down or up.
  pub shares : (i : ℕ) → i < t.rows → Rounded (q.totals i) (t.cost i * b) (t.period i)
  -- The planner handed back has reached slot b and isn't off.
  pub reaches : reached t q.stage ≡ b
  pub not_off : ¬ Off t q

-- A step of an admitted table from any state that isn't off, whether or not a fresh planner ever gets there.
abbrev pub StepServes : Type 0
StepServes = (t : Table) (p q : Planner) (k : ℕ) (ws : List ℕ) → Admissible t → ¬ Off t p → p.stage ≡ due k → Step t p q ws
    → Serves t (start t k) (end t k) p q ws

-- So do the first k steps of a fresh planner together, and at the end of every interval until then each row has had its share.
pub record Served (t : Table) (k : ℕ) (q : Planner) (ws : List ℕ) : Type 0 where
  pub serves : Serves t 0 (start t k) fresh q ws
  pub shares : (i m : ℕ) → i < t.rows → m < k → Rounded (count (end t m) (moves ws i)) (t.cost i * end t m) (t.period i)

abbrev pub RunServes : Type 0
RunServes = (t : Table) (k : ℕ) (q : Planner) (ws : List ℕ) → Admissible t → Run t k q ws → Served t k q ws
