-- is_repeated: the rows that are left decide, and fewer are left each time.
use mathlib.Core.Path.{◌≡◌, refl, sym, ap, ◌∙◌}
use mathlib.Core.Bool.{◌&&◌}
use Prim.Native.Nat.{ℕ}
use native.Mathlib.Omega.{arith}
use Rattle.numbers.specs.Finite.{any, count}
use Rattle.numbers.specs.Lists.{at}
use Rattle.numbers.specs.Word.{bit}
use Rattle.numbers.proofs.Truth.{both, fst, is_true, of_true, of_false}
use Rattle.numbers.proofs.Finite.{any_of, any_none}
use Rattle.numbers.proofs.Word.{bit_zero}
use Rattle.rules.specs.Bounds.{max_rows}
use Rattle.sets.proofs.Sums.{sum_without}
use Rattle.pasted.specs.Alike.{alike}
use Rattle.pasted.proofs.AsGiven.{left_out}
use Rattle.pasted.proofs.is_repeated.Statement.{statement}
use Rattle.pasted.proofs.is_repeated.Tie as tie

abbrev invariant-loop : tie.invariant-loop-left
invariant-loop rows table i left₀ left =
    any max_rows (λ j. bit left j && alike (at table.period) (at table.second) (at table.way) i j)
    ≡ any max_rows (λ j. bit rows j && alike (at table.period) (at table.second) (at table.way) i j)

abbrev decreases-loop : tie.decreases-loop-left
decreases-loop rows table i left₀ left = count 64 (bit left)

loop-holds : tie.Need-loop-left-init invariant-loop decreases-loop
loop-holds c = refl

lowest-row-requires : tie.Need-lowest_row-j-requires invariant-loop decreases-loop
lowest-row-requires c κs = c.loop-left-test.true

is-alike-requires : tie.Need-is_alike-requires invariant-loop decreases-loop
is-alike-requires c κs = (omega (arith, c.lowest_row-j.ensures.0), c.requires)

returns : tie.Need-returns-then-is_alike invariant-loop decreases-loop
returns c =
    let d = c in
    let z = d in
    let e = d.lowest_row-j.ensures in
    sym (is_true _ (any_of max_rows _ d.lowest_row-j.result (omega (arith, e.0))
    (both (bit z.loop-left.left d.lowest_row-j.result) _ (of_true e.1) (of_true (sym c.is_alike.ensures ∙ c.if-is_alike.true)))))
    ∙ z.loop-left.invariant

shl-left : tie.Need-overflow_shl-left invariant-loop decreases-loop
shl-left c = omega (arith, c.lowest_row-j.ensures.0)

loop-less : tie.Need-loop-left-smaller invariant-loop decreases-loop
loop-less c =
    let d = c in
    let e = d.lowest_row-j.ensures in
    let s = sum_without d.loop-left.left d.lowest_row-j.result e.0 (λ j. 1) 64 e.0 e.1 in
    omega (arith, s)

loop-again : tie.Need-loop-left-preserved invariant-loop decreases-loop
loop-again c =
    let d = c in
    let z = d in
    let a = z.args in
    left_out z.loop-left.left d.lowest_row-j.result
    (alike (at a.table.now.period) (at a.table.now.second) (at a.table.now.way) a.i) d.lowest_row-j.ensures.0
    (sym c.is_alike.ensures ∙ c.if-is_alike.false)
    ∙ z.loop-left.invariant

returns-2 : tie.Need-returns invariant-loop decreases-loop
returns-2 c =
    let z = c in
    sym (any_none max_rows _
    (λ j l t. of_false (ap (λ (v : ℕ). bit v j) c.loop-left-test.false ∙ bit_zero j) (fst (bit z.loop-left.left j) _ t)))
    ∙ z.loop-left.invariant

pub is_repeated_spec : {M : Type 1} → statement M
is_repeated_spec =
    tie.close
    (tie.spec
    invariant-loop
    decreases-loop
    loop-holds
    lowest-row-requires
    is-alike-requires
    returns
    shl-left
    loop-less
    loop-again
    returns-2)
