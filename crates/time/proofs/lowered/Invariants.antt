use Rattle.std.proofs.Common.{ℕ, ◌<◌}
use Rattle.numbers.specs.Lists.{at}
use Rattle.time.specs.Time.{Periods, Nearing}
use Rattle.time.proofs.lowered.Given as goal

-- the divisors with the periods before j are in
abbrev pub invariant-loop-j : goal.invariant-loop-j
invariant-loop-j l =
    (n : ℕ) → Periods n (at l.period) → Nearing n (at l.period) l.i 0 l.l → l.i < n → Nearing n (at l.period) l.i l.j l.least
