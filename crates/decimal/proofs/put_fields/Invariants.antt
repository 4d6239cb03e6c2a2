-- put_fields: the first numbers are put.
use Rattle.std.proofs.Common.{◌∷◌, ◌+◌, ◌*◌, ◌≤◌}
use Rattle.numbers.specs.Lists.{at, each}
use Rattle.rules.specs.Text.{space, decimal}
use Rattle.decimal.specs.Puts.{field_most, Puts}
use Rattle.decimal.proofs.put_fields.Given as goal

abbrev pub invariant-loop-x : goal.invariant-loop-x
invariant-loop-x l =
    (l.next ≤ l.at + field_most * l.x-index)
    × Puts (each l.x-index (λ i. space ∷ decimal (at l.numbers i))) l.initial.out l.at l.out l.next
