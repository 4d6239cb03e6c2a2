-- is_idle: row after row runs on another ring.
use Rattle.std.proofs.Common.{sym, ◌∙◌, eqb, arith}
use Rattle.numbers.specs.Lists.{at}
use Rattle.numbers.proofs.Truth.{eqb_of}
use Rattle.time.proofs.Periods.{some_has, none_has}
use Rattle.outline.proofs.is_idle.Goals as goal

pub returns-then-end_at-d : goal.returns-then-end_at-d
returns-then-end_at-d c =
    let z = c.args in
    some_has z.rows (λ j. eqb (at z.way.now j) z.d) c.loop-i.i (omega arith)
    (eqb_of _ _ (sym c.end_at.ensures ∙ c.if-end_at-d.true))

pub returns : goal.returns
returns c = none_has _ _ c.loop-i.invariant (omega arith)
