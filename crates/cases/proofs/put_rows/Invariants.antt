-- put_rows: row by row; the first i are put.
use Rattle.std.proofs.Common.{◌+◌, ◌*◌, ◌≤◌}
use Rattle.numbers.specs.Lists.{each}
use Rattle.decimal.specs.Puts.{Puts}
use Rattle.cases.specs.Tables.{row_numbers, row_at}
use Rattle.cases.proofs.put_rows.Given as goal

abbrev pub invariant-loop-i : goal.invariant-loop-i
invariant-loop-i l =
    (l.next ≤ l.at + 7 * l.i) × Puts (each l.i (λ j. row_at l.board l.xs (1 + row_numbers l.board * j))) l.initial.out l.at l.out l.next
