-- lowest_bad: no word before slot `slot` is bad.
use Rattle.std.proofs.Common.{◌≡◌}
use Rattle.rules.specs.Bus.{Table}
use Rattle.maker.specs.Words.{Segmented}
use Rattle.maker.proofs.Bad.{Clean}
use Rattle.maker.proofs.moves.lowest_bad.Given as goal

abbrev pub invariant-loop-slot : goal.invariant-loop-slot
invariant-loop-slot l = (t : Table) → t.rows ≡ l.rows → Segmented t l.routes → Clean t l.plan l.slot
