-- numbers: byte by byte; what is left to read gives the rest of the numbers.
use Rattle.std.specs.Option.{is_some, unwrap_or}
use Rattle.cases.proofs.Reading.{Front}
use Rattle.cases.proofs.numbers.Given as goal

abbrev pub invariant-loop-byte : goal.invariant-loop-byte
invariant-loop-byte l =
    Front l.text l.initial.out l.byte-index (is_some l.«open») (unwrap_or l.«open» 0) l.out l.k
