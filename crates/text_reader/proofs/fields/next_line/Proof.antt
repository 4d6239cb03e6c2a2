-- `fields::next_line` meets its contract. The loop's invariant: no line before `at` has a field.
use mathlib.Core.Path.{◌≡◌, refl}
use Prim.Native.Nat.{◌+◌, ◌-◌, ◌≤◌}
use native.Mathlib.Omega.{arith}
use lib.ListN.{length}
use borrow.Author.Rules.{rules}
use Rattle.text_reader.specs.Walk.{lines_at}
use Rattle.text_reader.proofs.TextLines.{line_skipped, line_found, line_none}
use Rattle.text_reader.proofs.fields.next_line.Statement.{statement}
use Rattle.text_reader.proofs.fields.next_line.Tie as tie

abbrev invariant-loop : tie.invariant-loop-at
invariant-loop text from at₀ at = (at ≤ length text + 1) × (lines_at text from ≡ lines_at text at)

abbrev decreases-loop : tie.decreases-loop-at
decreases-loop text from at₀ at = length text + 1 - at

loop-holds : tie.Need-loop-at-init invariant-loop decreases-loop
loop-holds c = (c.requires, refl)

line-at-requires : tie.Need-line_at-line-requires invariant-loop decreases-loop
line-at-requires c κs = search rules

sub-next-field : tie.Need-slice_bounds-next_field-count invariant-loop decreases-loop
sub-next-field c = omega (arith, c.line_at-line.ensures.ordered)

part-next-field-start : tie.Need-slice_bounds-next_field-start invariant-loop decreases-loop
part-next-field-start c = omega (arith, c.line_at-line.ensures.ordered)

part-next-field-end : tie.Need-slice_bounds-next_field-end invariant-loop decreases-loop
part-next-field-end c = let l = c.line_at-line.ensures in omega (arith, l.high, l.past)

next-field-requires : tie.Need-next_field-first-requires invariant-loop decreases-loop
next-field-requires c κs = omega arith

returns : tie.Need-returns-then-first invariant-loop decreases-loop
returns c =
    let n = c in
    let l = n in
    line_found l.line_at-line.ensures (n.next_field-first.ensures l.line_at-line.result.start) _ c.if-first.true
    l.loop-at.invariant.1

loop-less : tie.Need-loop-at-smaller invariant-loop decreases-loop
loop-less c =
    let l = c.line_at-line.ensures in
    omega (arith, l.start, l.ordered, l.high, l.past)

loop-again : tie.Need-loop-at-preserved invariant-loop decreases-loop
loop-again c =
    let n = c in
    let l = n in (
      l.line_at-line.ensures.past,
      line_skipped l.line_at-line.ensures (n.next_field-first.ensures l.line_at-line.result.start) _ c.if-first.false
          l.loop-at.invariant.1,
    )

returns-2 : tie.Need-returns invariant-loop decreases-loop
returns-2 c =
    let u = c.loop-at in
    line_none _ _ u.at u.invariant.1 (omega arith) u.invariant.0

pub next_line_spec : {M : Type 1} → statement M
next_line_spec =
    tie.close
    (tie.spec
    invariant-loop
    decreases-loop
    loop-holds
    line-at-requires
    sub-next-field
    part-next-field-start
    part-next-field-end
    next-field-requires
    returns
    loop-less
    loop-again
    returns-2)
