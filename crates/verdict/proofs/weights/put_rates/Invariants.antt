use Rattle.std.proofs.Common.{◌≡◌, ◌*◌, ◌/◌}
use lib.Dec.{ltb}
use Rattle.numbers.specs.Finite.{lowest}
use Rattle.numbers.specs.Lists.{at}
use Rattle.table.specs.Columns.{ByRow}
use Rattle.verdict.proofs.weights.put_rates.Given as goal

-- the rows before row i have their rates and their lowest light one, and the jobs are those of the period before
abbrev pub invariant-loop-i : goal.invariant-loop-i
invariant-loop-i l =
    ByRow l.i (λ k. l.hyper / at l.period k * at l.cost k) l.rate × (l.jobs ≡ l.hyper / l.last)
    × (l.light ≡ lowest l.i (λ k. ltb (at l.cost k * l.interval) (at l.period k)))
