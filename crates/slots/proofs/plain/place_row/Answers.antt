-- place_row: a slot more, and the end.
use Rattle.std.proofs.Common.{sym, ap, ◌∙◌, arith, bit_or}
use mathlib.Core.Logic.{inr}
use Rattle.numbers.specs.Lists.{at}
use Rattle.numbers.proofs.Word.{one_shl}
use Rattle.slots.proofs.PlainWalk.{placing_start, placing_skip, placing_take, placing_end}
use Rattle.slots.proofs.plain.place_row.Goals as goal
use Rattle.slots.proofs.plain.place_row.Goals.{then-is_free, else-is_free}

pub slots-init : goal.slots-init
slots-init c = placing_start

pub slots-preserved : goal.slots-preserved
slots-preserved c =
    let P = c.slots.invariant in
    let opens = sym c.is_free.ensures in
    elim c.if-is_free.branch [
      | then-is_free w ↦ rw (w.words-is, w.left-is)
          (placing_take P c.slots-test.true
          (omega (arith, P.kept.long, c.requires.1)) (opens ∙ w.if-is_free.true) (omega (arith, c.if-left-eq0.false))
          (ap (bit_or (at c.slots.words c.slots.s)) (one_shl c.args.i c.requires.0)))
      | else-is_free w ↦ rw (w.words-is, w.left-is) (placing_skip P c.slots-test.true (opens ∙ w.if-is_free.false))
    ]

pub returns-then-left-eq0 : goal.returns-then-left-eq0
returns-then-left-eq0 c = placing_end c.slots.invariant (inr (omega (arith, c.if-left-eq0.true)))
