-- `seek` looks at the row itself, and then for a way by the rows after it.
use Rattle.std.proofs.Common.{◌<◌, ltb, arith}
use borrow.Author.Tests.{not-true, not-false}
use Rattle.numbers.specs.Lists.{at}
use Rattle.loads.proofs.Words.{bit_none, bit_some, bit_one_more}
use Rattle.loads.specs.Loads.{digit}
use Rattle.loads.proofs.Settling.{carried_circ}
use Rattle.loads.proofs.States.{heads_are}
use Rattle.loads.proofs.Turning.{narrow_of, turn_still, turn_shown, turn_none, turn_found}
use Rattle.loads.proofs.seek.Goals as goal

pub returns-then-s-i-eq0 : goal.returns-then-s-i-eq0
returns-then-s-i-eq0 c n K h f T =
    let a = c.args in
    let M = T.mended.state in
    turn_still _ _ _ _ _ (at a.head.now) f (heads_are T.ends) T.ends.spans T.parts a.s.parted a.s.top _ _ _
    M.parted_is M.upper M.compared T.mended.within a.i T.row (bit_none _ a.i c.if-s-i-eq0.true)

pub find_way-way-requires : goal.find_way-way-requires
find_way-way-requires c =
    let T = c.requires.4 in
    let e = T.ends.wired.ends c.args.i T.row in
    (c.requires.0, c.requires.1, T.ends.wired, narrow_of T.mended.state.compared _ _, e.1, e.0)

pub returns-then-not-way : goal.returns-then-not-way
returns-then-not-way c n K h f T =
    let a = c.args in
    let w = c.find_way-way in
    let M = T.mended.state in
    let H = heads_are T.ends in
    let e = T.ends.wired.ends a.i T.row in
    let s = w.ensures n K _ (ltb a.i) _ T.ends.wired (narrow_of M.compared _ _) e.1 e.0
    (turn_shown _ _ _ _ _ (at a.head.now) f H T.ends.spans T.parts a.s.parted a.s.top _ _ _ M.parted_is M.upper
    M.compared T.mended.within a.i T.row a.later T.after)
    (carried_circ _ _ _ _ _ f T.ends.spans T.parts (digit a.s.top)) in
    turn_none _ _ _ _ _ (at a.head.now) f H T.ends.spans T.parts a.s.parted a.s.top _ _ _ M.parted_is M.upper
    M.compared T.mended.within a.i T.row a.later T.after w.result.rows (rw (not-true w.result.found c.if-not-way.true) at s)

pub returns : goal.returns
returns c n K h f T =
    let a = c.args in
    let w = c.find_way-way in
    let M = T.mended.state in
    let H = heads_are T.ends in
    let e = T.ends.wired.ends a.i T.row in
    let l : a.i < 64 = omega (arith, T.row, T.ends.spans.few_rows) in
    let s = w.ensures n K _ (ltb a.i) _ T.ends.wired (narrow_of M.compared _ _) e.1 e.0
    (turn_shown _ _ _ _ _ (at a.head.now) f H T.ends.spans T.parts a.s.parted a.s.top _ _ _ M.parted_is M.upper
    M.compared T.mended.within a.i T.row a.later T.after)
    (carried_circ _ _ _ _ _ f T.ends.spans T.parts (digit a.s.top)) in
    turn_found _ _ _ _ _ (at a.head.now) f H T.ends.spans T.parts a.s.parted a.s.top _ _ _ M.parted_is M.upper
    M.compared T.mended.within a.i T.row a.later T.after w.result.rows (rw (not-false w.result.found c.if-not-way.false) at s)
    (bit_some _ a.i c.if-s-i-eq0.false) _ (λ j m. bit_one_more w.result.rows a.i j l)
