-- put_bytes: the moves of the words before slot `slot` are written, after the head.
use Rattle.std.proofs.Common.{◌+◌, ◌*◌, take}
use Rattle.rules.specs.ElementList.{list_header, entry_size, in_file}
use Rattle.maker.proofs.Words.{Written}
use Rattle.maker.proofs.moves.Picks.put_bytes.Given as goal

abbrev pub invariant-loop-slot : goal.invariant-loop-slot
invariant-loop-slot l =
    Written in_file l.self.into l.self.from l.plan (take list_header l.initial.out) l.initial.out l.out l.n (list_header + entry_size * l.n) l.slot
