-- next_end: the first multiple past the slot of a period that leads.
use mathlib.Core.Path.{◌≡◌, ap₂, ◌∙◌}
use Prim.Native.Nat.{ℕ, ◌+◌}
use native.Mathlib.Omega.{arith}
use Rattle.numbers.specs.Lists.{at}
use Rattle.rules.specs.Bus.{Table}
use Rattle.rules.specs.Loads.{end}
use Rattle.lags.proofs.Intervals.{even_end, end_le}
use Rattle.time.specs.declared.Time.{Time}
use Rattle.time.specs.Time.{Timed, Begins}
use Rattle.time.proofs.Periods.{leading_is}
use Rattle.time.proofs.Even.{past_fits, past_is}
use Rattle.time.proofs.Time.next_end.Statement.{statement}
use Rattle.time.proofs.Time.next_end.Tie as tie

-- where one leads
even : {t : Table} {c : Time} {k s : ℕ} → Timed t c → Begins t k s → c.count ≡ 1 → s + c.interval ≡ end t k
even {t} {c} {k} T B e = ap₂ ◌+◌ B.here T.interval ∙ even_end T.sound (at c.period) (rw e at (leading_is T.leads)) k

add-result : tie.Need-overflow_add-result
add-result c =
    let z = c in
    let k = z.requires.1 in
    let T = z.requires.2 in
    let B = z.requires.3 in
    record { fits = omega (arith, T.short, even T B c.if-self-eq1.true, end_le T.sound k B.in_range) }

returns : tie.Need-returns-then-self-eq1
returns c t k T B = even T B c.if-self-eq1.true

multiple-past-requires : tie.Need-multiple_past-requires
multiple-past-requires c κs =
    let z = c in
    past_fits z.requires.2 z.requires.3

returns-2 : tie.Need-returns
returns-2 c t k T B = past_is T B c.multiple_past.ensures

pub next_end_spec : {M : Type 1} → statement M
next_end_spec = tie.close (tie.spec add-result returns multiple-past-requires returns-2)
