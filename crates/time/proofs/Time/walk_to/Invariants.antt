use Rattle.std.proofs.Common.{◌≡◌, ◌≤◌}
use Rattle.rules.specs.Bus.{Table}
use Rattle.rules.specs.Loads.{intervals, start}
use Rattle.time.specs.Time.{Timed}
use Rattle.time.proofs.Time.walk_to.Given as goal

-- as many intervals are passed as the loop has gone round, and the next starts at the slot, or that is h
abbrev pub invariant-loop : goal.invariant-loop
invariant-loop l = (t : Table) → Timed t l.self → (l.counter ≤ intervals t) × (l.slot ≡ start t l.counter)
