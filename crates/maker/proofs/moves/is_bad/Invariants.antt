-- is_bad: the word's rows before row `i` share no segment, and `used` has theirs.
use Rattle.std.proofs.Common.{◌≡◌}
use Rattle.rules.specs.Bus.{Table}
use Rattle.maker.specs.Words.{Segmented}
use Rattle.maker.proofs.Bad.{Used}
use Rattle.maker.proofs.moves.is_bad.Given as goal

abbrev pub invariant-loop-i : goal.invariant-loop-i
invariant-loop-i l = (t : Table) → t.rows ≡ l.rows → Segmented t l.routes → Used t l.word l.i l.used
