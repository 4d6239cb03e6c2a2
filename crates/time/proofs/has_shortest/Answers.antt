-- has_shortest: none of the periods before k is L.
use Rattle.std.proofs.Common.{sym, ◌∙◌, eqb, arith}
use Rattle.numbers.specs.Lists.{at}
use Rattle.numbers.proofs.Truth.{is_true, eqb_of}
use Rattle.numbers.proofs.Finite.{any_of, any_none}
use Rattle.time.proofs.has_shortest.Goals as goal

pub returns-then-slots_at-interval : goal.returns-then-slots_at-interval
returns-then-slots_at-interval c =
    let a = c.args in
    sym (is_true _ (any_of a.count (λ k. eqb (at a.period.now k) a.interval) c.loop-k.k (omega arith)
    (eqb_of (at a.period.now c.loop-k.k) a.interval (sym c.slots_at.ensures ∙ c.if-slots_at-interval.true))))

pub returns : goal.returns
returns c =
    let a = c.args in
    sym (any_none a.count (λ k. eqb (at a.period.now k) a.interval) (λ k l. c.loop-k.invariant.none k (omega arith)))
