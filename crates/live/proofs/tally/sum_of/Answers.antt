-- `tally::sum_of` meets its contract: place after place is added.
use Rattle.std.proofs.Common.{◌∙◌, arith}
use Rattle.live.proofs.Sums.{adding_start, adding_next, adding_end, place_row, row_alone, load_alone}
use Rattle.live.proofs.tally.sum_of.Goals as goal

pub loop-i-init : goal.loop-i-init
loop-i-init c = adding_start

pub load_of-total-requires : goal.load_of-total-requires
load_of-total-requires c =
    let is = place_row c.args.elements (λ j. 0) c.row_at-row.ensures in
    let R = c.requires in
    (R.2.small, R.0, R.1, λ p. row_alone is (R.2.row c.loop-i.i (omega arith) (omega (arith, is.period, p))))

pub loop-i-preserved : goal.loop-i-preserved
loop-i-preserved c =
    adding_next _ c.loop-i.invariant (omega arith)
    (c.load_of-total.ensures.0 ∙ load_alone c.args.d c.args.s (place_row c.args.elements (λ j. 0) c.row_at-row.ensures))
    c.load_of-total.ensures.1

pub returns : goal.returns
returns c label = adding_end _ _ c.loop-i.invariant (omega arith) c.requires.1
