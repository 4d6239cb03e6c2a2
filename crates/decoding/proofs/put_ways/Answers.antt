-- put_ways: the directions of the rows before row `i` are read.
use Rattle.std.proofs.Common.{◌≡◌, ℕ, ◌+◌, arith, sym, ap, ◌∙◌}
use Rattle.numbers.specs.Lists.{at}
use Rattle.rules.specs.TableFile.{version, way_in, file_rings}
use Rattle.table.proofs.ByRow.{by_row_start, by_row_put}
use Rattle.table.proofs.RowSizes.{last_way}
use Rattle.decoding.proofs.Decoding.{last_end, wayless, way_at, ways_none}
use Rattle.decoding.proofs.put_ways.Goals as goal

pub returns-then-rings_of-ne-RINGS : goal.returns-then-rings_of-ne-RINGS
returns-then-rings_of-ne-RINGS c =
    rw c.requires.1 (ways_none c.args.file.now (rw c.rings_of.ensures at c.if-rings_of-ne-RINGS.true))

pub loop-i-init : goal.loop-i-init
loop-i-init c = rw c.requires.1 (by_row_start _)

pub bounds-file-row_in : goal.bounds-file-row_in
bounds-file-row_in c =
    omega (arith, last_way (version c.args.file.now) (sym c.rings_of.ensures ∙ c.if-rings_of-ne-RINGS.false))

pub loop-i-preserved : goal.loop-i-preserved
loop-i-preserved c =
    let f = c.args.file.now in
    let two = sym c.rings_of.ensures ∙ c.if-rings_of-ne-RINGS.false in
    by_row_put _ c.loop-i.invariant (omega arith)
    (ap (λ (k : ℕ). at f (k + 6)) c.row_in.ensures.0 ∙ sym (way_at f c.loop-i.i two))

pub returns : goal.returns
returns c =
    let f = c.args.file.now in
    last_end f c.requires.0 (way_in (file_rings f)) (wayless (file_rings f))
    (let e : c.loop-i.i ≡ c.of-i-end.result.rows = omega arith in e ∙ c.of-i-end.ensures.rows) c.loop-i.invariant
