-- `tally::load_of` meets its contract: a free place adds nothing, nor does a row that doesn't use the segment.
use Rattle.std.proofs.Common.{arith}
use Rattle.table.specs.Rows.{single}
use Rattle.live.proofs.Sums.{free_adds, apart_adds, row_adds, adds_little}
use Rattle.live.proofs.tally.load_of.Goals as goal

pub returns-then-row-eq0 : goal.returns-then-row-eq0
returns-then-row-eq0 c =
    let z = c.args in
    (free_adds z.d (single z.elements 1 z.row) z.s c.if-row-eq0.true, omega arith)

pub segments-word-requires : goal.segments-word-requires
segments-word-requires c =
    let S = c.requires.3 (omega (arith, c.if-row-eq0.false)) in (
      c.requires.0,
      record { low = omega (arith, S.first_low, S.second_low); high = omega (arith, S.first_high, S.second_high) },
      record { low = omega (arith, S.first_low, S.second_low); high = omega (arith, S.first_high, S.second_high) },
    )

pub returns-then-word-s-eq0 : goal.returns-then-word-s-eq0
returns-then-word-s-eq0 c =
    let z = c.args in
    let S = c.requires.3 (omega (arith, c.if-row-eq0.false)) in (
      apart_adds z.d (single z.elements 1 z.row) z.s c.requires.2 (omega (arith, S.way_known)) _
          c.segments-word.ensures c.if-word-s-eq0.true,
      omega arith,
    )

pub overflow_mul-result : goal.overflow_mul-result
overflow_mul-result c =
    let S = c.requires.3 (omega (arith, c.if-row-eq0.false)) in
    omega (arith, adds_little c.args.d c.args.row.period c.args.row.cost S.cost_high, c.requires.1)

pub returns : goal.returns
returns c =
    let z = c.args in
    let S = c.requires.3 (omega (arith, c.if-row-eq0.false)) in (
      row_adds z.d (single z.elements 1 z.row) z.s c.requires.2 (omega (arith, S.way_known)) _ c.segments-word.ensures
          (omega (arith, c.if-row-eq0.false)) c.if-word-s-eq0.false,
      omega (arith, adds_little z.d z.row.period z.row.cost S.cost_high, c.requires.1),
    )
