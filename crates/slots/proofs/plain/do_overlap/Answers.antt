-- do_overlap: the first test decides where it fails, and else the second.
use Rattle.std.proofs.Common.{arith}
use lib.Dec.{ltb, ltb→lt, lt→ltb}
use Rattle.numbers.specs.Lists.{at}
use Rattle.numbers.proofs.Truth.{is_true, is_false}
use Rattle.rules.specs.Line.{meet}
use Rattle.slots.proofs.plain.do_overlap.Goals as goal

pub returns-then-end_at : goal.returns-then-end_at
unfolding meet
returns-then-end_at c =
    let f = at c.args.first.now in
    let g = at c.args.second.now in
    let b = ltb (f c.args.j) (g c.args.i) in
    let t = is_true b (lt→ltb _ _ (omega (arith, c.end_at.ensures, c.end_at-2.ensures, c.if-end_at.true))) in
    rw (c.end_at-then-end_at.ensures, c.end_at-then-end_at-2.ensures, t)

pub returns-else-end_at : goal.returns-else-end_at
unfolding meet
returns-else-end_at c =
    let f = at c.args.first.now in
    let g = at c.args.second.now in
    let b = ltb (f c.args.j) (g c.args.i) in
    let no = is_false b (λ t. omega (arith, ltb→lt _ _ t, c.end_at.ensures, c.end_at-2.ensures, c.if-end_at.false)) in
    rw (c.end_at.ensures, c.end_at-2.ensures, no)
