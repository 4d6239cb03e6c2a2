-- #113: what a plan of the split table does for the rows as they were given. The file holds statements only; proofs/Jobs proves them.
--
--   come t r ws i s      how many slots of row i's data have come to the relay r before slot s, where the plan ws is repeated for ever
--   gone t r ws i s      how many have left it for the row's second end
--   holds t r ws i s j   in slot s the relay holds job j of row i, whole or in part
--   Relays t r ws        what the plan promises
--   SplitRelays         a plan that carries the split table promises it
--   TwoHeld             two jobs of a row are held in a plan
--
-- Data moves in order, so job j of a row is those slots of its data that come after j × cost of them: cost many.
use Rattle.std.specs.Prelude.{◌≡◌, List, Bool, ◌&&◌, ℕ, ◌+◌, ◌*◌, ◌≤◌, ◌<◌, T, leb, ltb}
use Rattle.numbers.specs.Finite.{count}
use Rattle.rules.specs.Bus.{Table, through}
use Rattle.rules.specs.Relay.{split, stands_at}
use Rattle.rules.specs.Planner.{WholePlan}
use Rattle.rules.specs.Cases.{through_1}
use Rattle.table.specs.Sound.{Sound}
use Rattle.promises.specs.Demands.{endless, moved, Carries}

abbrev pub come : Table → (r : ℕ) → List ℕ → (i s : ℕ) → ℕ
come t r ws i s = count s (endless ws (stands_at t r i))

-- In the very first period the slots of a second half carry no data.
abbrev pub gone : Table → (r : ℕ) → List ℕ → (i s : ℕ) → ℕ
gone t r ws i s = count s (λ u. leb (t.period i) u && endless ws (stands_at t r i + 1) u)

-- Some of it has come when the slot is over, and not all had left when it began.
abbrev pub holds : Table → (r : ℕ) → List ℕ → (i s j : ℕ) → Bool
holds t r ws i s j = ltb (j * t.cost i) (come t r ws i (s + 1)) && ltb (gone t r ws i s) ((j + 1) * t.cost i)

-- Job j of row i arrives at slot j × period.
pub record Relays (t : Table) (r : ℕ) (ws : List ℕ) : Type 0 where
  -- Demand 3 for the split rows: the bits of a second half stand in the first period too, and the shares count them.
  pub carries : Carries (split t r) ws
  -- Of a row that doesn't go through the relay each job moves whole from its arrival up to its deadline, as without a relay.
  pub kept : (i j : ℕ) → i < t.rows → ¬ T (through t i r)
      → moved ws (stands_at t r i) (j * t.period i) ((j + 1) * t.period i) ≡ t.cost i
  -- Of a row through it each job moves whole to the relay in its own period,
  pub to_relay_jobs : (i j : ℕ) → i < t.rows → T (through t i r)
      → moved ws (stands_at t r i) (j * t.period i) ((j + 1) * t.period i) ≡ t.cost i
  -- and whole from the relay in the next one.
  pub from_relay_jobs : (i j : ℕ) → i < t.rows → T (through t i r)
      → moved ws (stands_at t r i + 1) ((j + 1) * t.period i) ((j + 2) * t.period i) ≡ t.cost i
  -- What leaves in a period is the job of the period before, all of which the relay has stored.
  pub before : (i j s : ℕ) → i < t.rows → T (through t i r) → (j + 1) * t.period i ≤ s → s < (j + 2) * t.period i
      → (j * t.cost i ≤ gone t r ws i s) × (gone t r ws i (s + 1) ≤ (j + 1) * t.cost i) × ((j + 1) * t.cost i ≤ come t r ws i s)
  -- So within two periods of the job's arrival all its data has left for its second end.
  pub arrives : (i j : ℕ) → i < t.rows → T (through t i r) → gone t r ws i ((j + 2) * t.period i) ≡ (j + 1) * t.cost i
  -- The relay holds at most two jobs of a row.
  pub held : (i s n : ℕ) → i < t.rows → T (through t i r) → count n (holds t r ws i s) ≤ 2

abbrev pub SplitRelays : Type 0
SplitRelays = (t : Table) (r : ℕ) (ws : List ℕ) → Sound t → Carries (split t r) ws → Relays t r ws

-- Two are held: in the plan of the table `through_1` with relay 1, in the first slot of the second period, of row 1.
abbrev pub TwoHeld : Type 0
TwoHeld = (ws : List ℕ) → WholePlan (split through_1 1) ws → count 2 (holds through_1 1 ws 1 2) ≡ 2
