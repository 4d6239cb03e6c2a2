-- labels_of: the labels of the rows before row `i` are read.
use Rattle.std.proofs.Common.{◌≡◌, ℕ, ◌+◌, arith, sym, ap, ◌∙◌}
use Rattle.rules.specs.TableFile.{read16, version, label_in, file_rings}
use Rattle.table.proofs.ByRow.{by_row_start, by_row_put}
use Rattle.table.proofs.RowSizes.{label_two, last_label}
use Rattle.decoding.proofs.Decoding.{last_end, labelless, label_at, labels_none_way, labels_none}
use Rattle.decoding.proofs.labels_of.Goals as goal

pub returns-then-rings_of-eq-RINGS : goal.returns-then-rings_of-eq-RINGS
returns-then-rings_of-eq-RINGS c = labels_none_way c.args.file.now (rw c.rings_of.ensures at c.if-rings_of-eq-RINGS.true)

pub returns-then-version_of-ne-VERSION_2 : goal.returns-then-version_of-ne-VERSION_2
returns-then-version_of-ne-VERSION_2 c =
    labels_none c.args.file.now (rw c.rings_of.ensures at c.if-rings_of-eq-RINGS.false)
    (rw c.version_of.ensures at c.if-version_of-ne-VERSION_2.true)

pub loop-i-init : goal.loop-i-init
loop-i-init c = by_row_start _

pub read16-requires : goal.read16-requires
read16-requires c =
    omega (
      arith,
      last_label (version c.args.file.now) (rw c.rings_of.ensures at c.if-rings_of-eq-RINGS.false),
      label_two (sym c.version_of.ensures ∙ c.if-version_of-ne-VERSION_2.false),
    )

pub loop-i-preserved : goal.loop-i-preserved
loop-i-preserved c =
    let f = c.args.file.now in
    by_row_put _ c.loop-i.invariant (omega arith)
    (c.read16.ensures ∙ ap (λ (k : ℕ). read16 f (k + 6)) c.row_in.ensures.0
    ∙ sym (label_at f c.loop-i.i (rw c.rings_of.ensures at c.if-rings_of-eq-RINGS.false)
    (sym c.version_of.ensures ∙ c.if-version_of-ne-VERSION_2.false)))

pub returns : goal.returns
returns c =
    let f = c.args.file.now in
    last_end f c.requires (label_in (file_rings f)) (labelless (file_rings f))
    (let e : c.loop-i.i ≡ c.of-i-end.result.rows = omega arith in e ∙ c.of-i-end.ensures.rows) c.loop-i.invariant
