-- #102: the rows of an overlap set meet. The file holds a statement only; proofs/Meetings proves it.
--
--   SetsMeet      all rows of an overlap set use some one segment, in a table whose rings have cuts
use Rattle.std.specs.Prelude.{◌≢◌, List, ℕ, ◌<◌, length}
use Rattle.rules.specs.Bus.{Table, common}
use Rattle.rules.specs.Line.{HasCuts, Sets, set_at}
use Rattle.table.specs.Sound.{Sound}

abbrev pub SetsMeet : Type 0
SetsMeet = (t : Table) → Sound t → HasCuts t → (ws : List ℕ) → Sets t ws → (k : ℕ) → k < length ws → common t (set_at ws k) ≢ 0
