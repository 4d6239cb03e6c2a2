-- #106: two overlap sets can't tie. The file holds a statement only; `proofs/Sets.antt` proves it.
--
--   NoTies    of every table that passes 4 to 9 and 26 and has its cuts: different overlap sets have different least second ends
--
-- Without a cut there is no line, so no second ends to compare, and 10 is given.
use Rattle.rules.specs.Bus.{Table}
use Rattle.rules.specs.Line.{HasCuts}
use Rattle.rules.specs.Ties.{Tie}
use Rattle.table.specs.Sound.{Sound}

abbrev pub NoTies : Type 0
NoTies = (t : Table) → Sound t → HasCuts t → ¬ Tie t
