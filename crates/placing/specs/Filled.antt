-- The slots of one interval, written to the front of a lent slice: what `fill` gives.
--
--   Kept l was now    a lent slice of which only the first l places may have changed
--   FilledSlots n first second x l was now
--                     a lent slice that held `was` now holds the words of an interval of l slots, for loads x, at its front
--
-- Only one `now` fits (proofs/Filled).
use Rattle.std.specs.Prelude.{◌≡◌, List, ℕ, length, take, drop}
use Rattle.rules.specs.Line.{meet}
use Rattle.rules.specs.Interval.{SlotWords}

pub record Kept (l : ℕ) (was now : List ℕ) : Type 0 where
  pub rest : drop l now ≡ drop l was
  pub long : length now ≡ length was

pub record FilledSlots (n : ℕ) (first second x : ℕ → ℕ) (l : ℕ) (was now : List ℕ) : Type 0 where
  pub words : SlotWords n (meet first second) first x l (take l now)
  pub kept : Kept l was now
