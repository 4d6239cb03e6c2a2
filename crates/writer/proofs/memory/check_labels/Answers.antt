-- check_labels: the rows before row `i` have no label.
use Rattle.std.proofs.Common.{◌≡◌, arith}
use Rattle.writer.proofs.Labels.{bare_start, bare_next, labels_held, labels_bare, labels_lost}
use Rattle.writer.proofs.memory.check_labels.Goals as goal

pub returns-then-version-ne-VERSION_1 : goal.returns-then-version-ne-VERSION_1
returns-then-version-ne-VERSION_1 c M = labels_held _ _ _ c.args.numbers.now M c.if-version-ne-VERSION_1.true

pub loop-i-init : goal.loop-i-init
loop-i-init c = bare_start _ _

pub returns-then-label_in-ne0 : goal.returns-then-label_in-ne0
returns-then-label_in-ne0 c M =
    rw (c.at.ensures.0, c.at.ensures.1)
    (labels_lost _ _ _ _ M c.if-version-ne-VERSION_1.false _ c.loop-i-test.true c.loop-i.invariant
    (rw c.label_in.ensures at c.if-label_in-ne0.true))

pub loop-i-preserved : goal.loop-i-preserved
loop-i-preserved c = bare_next c.loop-i.invariant (rw c.label_in.ensures at c.if-label_in-ne0.false)

pub returns : goal.returns
returns c M =
    let e : c.loop-i.i ≡ c.args.rows = omega arith in
    labels_bare c.args.rings c.args.version c.args.rows c.args.numbers.now M (rw e at c.loop-i.invariant)
