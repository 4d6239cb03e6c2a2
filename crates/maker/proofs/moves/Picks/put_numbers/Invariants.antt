-- put_numbers: the moves of the words before slot `slot` are written.
use Rattle.std.proofs.Common.{[], ◌*◌}
use Rattle.rules.specs.ElementList.{entry_numbers, in_memory}
use Rattle.maker.proofs.Words.{Written}
use Rattle.maker.proofs.moves.Picks.put_numbers.Given as goal

abbrev pub invariant-loop-slot : goal.invariant-loop-slot
invariant-loop-slot l = Written in_memory l.self.into l.self.from l.plan [] l.initial.out l.out l.n (entry_numbers * l.n) l.slot
