-- The rows present of a live table, from the columns of its places.
--
--   present_in cost .. label              the table of the rows present
--   PutPresent cost .. label was now n   its numbers stand at the front of a slice that held `was`, and n is how many rows it has
use Rattle.std.specs.Prelude.{◌≡◌, List, ℕ}
use Rattle.rules.specs.Bus.{Labelled}
use Rattle.rules.specs.TableFile.{numbers}
use Rattle.rules.specs.Calls.{lent}
use Rattle.rules.specs.Live.{present}
use Rattle.live.specs.Tally.{column_live}

abbrev pub present_in : (cost period first second label : List ℕ) → Labelled
present_in cost period first second label = present (column_live 0 cost period first second label)

pub record PutPresent (cost period first second label was now : List ℕ) (n : ℕ) : Type 0 where
  pub rows : n ≡ (present_in cost period first second label).table.rows
  pub holds : now ≡ lent (numbers (present_in cost period first second label)) was
