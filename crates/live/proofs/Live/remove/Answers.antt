-- remove: the place holds a row.
use Rattle.std.proofs.Common.{rules, inl, inr, arith}
use lib.Dec.{ltb→lt, lt→ltb}
use Rattle.numbers.specs.Lists.{at}
use Rattle.numbers.proofs.Truth.{denied, granted}
use Rattle.live.specs.Answers.{Sized}
use Rattle.live.proofs.Answering.{remove_off, remove_none, remove_done}
use Rattle.live.proofs.Live.remove.Goals as goal

pub returns-then-not-is_in_order : goal.returns-then-not-is_in_order
returns-then-not-is_in_order c =
    let Z : Sized c.args.self.now = search rules in
    rw c.into.ensures (remove_off c.args.self.now c.args.k Z (denied c.is_in_order.ensures c.if-not-is_in_order.true))

pub returns-then-k-ge-ROWS : goal.returns-then-k-ge-ROWS
returns-then-k-ge-ROWS c =
    let Z : Sized c.args.self.now = search rules in
    rw c.into-then-k-ge-ROWS.ensures
    (remove_none c.args.self.now c.args.k Z (granted c.is_in_order.ensures c.if-not-is_in_order.false)
    (inl (omega (arith, c.if-k-ge-ROWS.true))))

pub returns-then-slots_at-eq0 : goal.returns-then-slots_at-eq0
returns-then-slots_at-eq0 c =
    let Z : Sized c.args.self.now = search rules in
    let p = at c.args.self.now.period c.args.k in
    rw c.into-then-slots_at-eq0.ensures
    (remove_none c.args.self.now c.args.k Z (granted c.is_in_order.ensures c.if-not-is_in_order.false)
    (inr (λ t. omega (arith, ltb→lt 0 p t, c.slots_at.ensures, c.if-slots_at-eq0.true))))

pub returns : goal.returns
returns c =
    let Z : Sized c.args.self.now = search rules in
    let p = at c.args.self.now.period c.args.k in
    remove_done c.args.self.now c.args.k Z (granted c.is_in_order.ensures c.if-not-is_in_order.false) (omega (arith, c.if-k-ge-ROWS.false))
    (lt→ltb 0 p (omega (arith, c.slots_at.ensures, c.if-slots_at-eq0.false))) c.put.ensures
