use Rattle.std.proofs.Common.{◌≡◌, ℕ, ◌≤◌, length}
use Rattle.numbers.specs.Lists.{at}
use Rattle.rules.specs.Bounds.{max_rows}
use Rattle.interval.specs.Interval.{Given}
use Rattle.interval.proofs.give.Given as goal

-- the rows up to i have their slots
abbrev pub invariant-loop-i : goal.invariant-loop-i
invariant-loop-i l = record {
  loads : length l.load ≡ max_rows;
  totals : length l.totals ≡ max_rows;
  given : Given l.i l.top (at l.initial.load) (at l.initial.totals) (at l.load) (at l.totals);
  whole : (j : ℕ) → l.i ≤ j → at l.load j ≡ at l.initial.load j;
}
