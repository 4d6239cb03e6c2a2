-- put_bytes: the first bytes are put.
use Rattle.std.proofs.Common.{◌≡◌, ◌+◌, take}
use Rattle.decimal.specs.Puts.{Puts}
use Rattle.decimal.proofs.put_bytes.Given as goal

abbrev pub invariant-loop-b : goal.invariant-loop-b
invariant-loop-b l = (l.next ≡ l.at + l.b-index) × Puts (take l.b-index l.text) l.initial.out l.at l.out l.next
