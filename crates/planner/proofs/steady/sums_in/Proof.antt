-- `steady::sums_in` meets its contract. What is summed and what is left make up the whole sums, and fewer rows are left each time.
use mathlib.Core.Path.{◌≡◌}
use Prim.Native.Nat.{◌+◌, ◌*◌, ◌≤◌}
use native.Mathlib.Omega.{arith}
use Rattle.numbers.specs.Finite.{sum_in, count}
use Rattle.numbers.specs.Word.{bit}
use Rattle.numbers.specs.Lists.{at}
use Rattle.numbers.proofs.Finite.{sum_in_most}
use Rattle.rules.specs.Bounds.{max_slots}
use Rattle.sets.proofs.Sums.{sum_past, sum_without, sum_none}
use Rattle.planner.proofs.steady.sums_in.Statement.{statement}
use Rattle.planner.proofs.steady.sums_in.Tie as tie
use Rattle.planner.proofs.steady.sums_in.Lts.{then-i-rows, else-i-rows}

abbrev invariant-loop : tie.invariant-loop-left
invariant-loop rows word rate totals rates₀ all₀ left₀ rates all left =
    (rates + sum_in rows (bit left) (at rate) ≡ sum_in rows (bit word) (at rate))
    × (all + sum_in rows (bit left) (at totals) ≡ sum_in rows (bit word) (at totals))

abbrev decreases-loop : tie.decreases-loop-left
decreases-loop rows word rate totals rates₀ all₀ left₀ rates all left = count 64 (bit left)

loop-holds : tie.Need-loop-left-init invariant-loop decreases-loop
loop-holds c = (omega arith, omega arith)

lowest-row-requires : tie.Need-lowest_row-i-requires invariant-loop decreases-loop
lowest-row-requires c κs = c.loop-left-test.true

-- what is summed so far is no more than all rows can have
small : (c : tie.At-loop-left invariant-loop decreases-loop)
    → (c.loop-left.rates ≤ c.args.rows * max_slots) × (c.loop-left.all ≤ c.args.rows * max_slots)
small c =
    let a = c.args in
    let p = c.requires.1 in (
      omega (arith, c.loop-left.invariant.0, sum_in_most a.rows (bit a.word) (at a.rate.now) max_slots (λ i l. (p i l).0)),
      omega (arith, c.loop-left.invariant.1, sum_in_most a.rows (bit a.word) (at a.totals.now) max_slots (λ i l. (p i l).1)),
    )

slots-at-requires : tie.Need-slots_at-rates-requires invariant-loop decreases-loop
slots-at-requires c κs = omega arith

add-rates : tie.Need-overflow_add-rates invariant-loop decreases-loop
add-rates c =
    let d = c in
    let z = d.before.before.before.before in
    omega (arith, c.slots_at-rates.ensures, small z, z.requires.1 d.lowest_row-i.result c.if-i-rows.true)

mul-all : tie.Need-offset_bounds-totals-i invariant-loop decreases-loop
mul-all c = omega arith

element-copy-out-all : tie.Need-bounds-totals-i invariant-loop decreases-loop
element-copy-out-all c = omega arith

add-all : tie.Need-overflow_add-all invariant-loop decreases-loop
add-all c =
    let d = c in
    let z = d.before.before.before.before.before.before in
    omega (arith, small z, z.requires.1 d.lowest_row-i.result c.if-i-rows.true)

shl-left : tie.Need-overflow_shl-left invariant-loop decreases-loop
shl-left c = omega (arith, c.lowest_row-i.ensures.0)

loop-less : tie.Need-loop-left-smaller invariant-loop decreases-loop
loop-less c =
    let d = c in
    let e = d.lowest_row-i.ensures in
    let s = sum_without d.loop-left.left d.lowest_row-i.result e.0 (λ j. 1) 64 e.0 e.1 in
    omega (arith, s)

loop-again : tie.Need-loop-left-preserved invariant-loop decreases-loop
loop-again c =
    let d = c in
    let z = d in
    let a = z.args in
    let e = d.lowest_row-i.ensures in
    let left = z.loop-left.left in
    let i = d.lowest_row-i.result in
    elim c.if-i-rows.branch [
      | then-i-rows w ↦ (
        omega (arith, w, z.loop-left.invariant.0, sum_without left i e.0 (at a.rate.now) a.rows w.if-i-rows.true e.1),
        omega (arith, w, z.loop-left.invariant.1, sum_without left i e.0 (at a.totals.now) a.rows w.if-i-rows.true e.1),
      )
      | else-i-rows w ↦ (
        omega (arith, w, z.loop-left.invariant.0, sum_past left i e.0 (at a.rate.now) a.rows (omega arith)),
        omega (arith, w, z.loop-left.invariant.1, sum_past left i e.0 (at a.totals.now) a.rows (omega arith)),
      )
    ]

returns : tie.Need-returns invariant-loop decreases-loop
returns c =
    let z = c.before in
    let a = z.args in
    let e = c.loop-left-test.false in (
      omega (arith, z.loop-left.invariant.0, sum_none a.rows z.loop-left.left (at a.rate.now) e),
      omega (arith, (small z).0, z.requires.0),
      omega (arith, z.loop-left.invariant.1, sum_none a.rows z.loop-left.left (at a.totals.now) e),
      omega (arith, (small z).1, z.requires.0),
    )

pub sums_in_spec : {M : Type 1} → statement M
sums_in_spec =
    tie.close
    (tie.spec
    invariant-loop
    decreases-loop
    loop-holds
    lowest-row-requires
    slots-at-requires
    add-rates
    mul-all
    element-copy-out-all
    add-all
    shl-left
    loop-less
    loop-again
    returns)
