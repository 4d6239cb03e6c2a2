use Rattle.std.proofs.Common.{max}
use Rattle.numbers.specs.Lists.{at}
use Rattle.numbers.specs.Rounding.{up}
use Rattle.table.specs.Columns.{ByRow}
use Rattle.raising.proofs.raised_costs.Given as goal

-- the rows before row i have their costs raised
abbrev pub invariant-loop-i : goal.invariant-loop-i
invariant-loop-i l = ByRow l.i (λ k. max (at l.cost k) (up (at l.period k) l.interval)) l.raised
