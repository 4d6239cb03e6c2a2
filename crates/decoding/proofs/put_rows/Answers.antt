-- put_rows: the rows before row `i` have no fault and are decoded.
use Rattle.std.proofs.Common.{◌≡◌, ℕ, ◌+◌, ◌*◌, ◌<◌, arith, refl, sym, ap, ap₂, ◌∙◌}
use mathlib.Core.List.{List}
use Rattle.numbers.specs.Lists.{at}
use Rattle.table.proofs.Reasons.{not_done}
use Rattle.rules.specs.TableFile.{header_size, row_size, version, file_rings, file_table}
use Rattle.table.proofs.Faults.{checked_start, checked_next, checked_stop, checked_end}
use Rattle.decoding.proofs.Decoding.{decoding_next, file_one_way, row_read}
use Rattle.decoding.proofs.put_rows.Goals as goal

pub loop-i-init : goal.loop-i-init
loop-i-init c = record {
  clear = checked_start _;
  decoded = c.requires.1;
  rest = record { elements = refl; rows = refl; rings = refl; ways = refl };
}

pub way_at-requires : goal.way_at-requires
way_at-requires c =
    let i = c.loop-i.i in (
      omega (arith, c.requires.0.few, c.of-head.ensures.rows),
      λ r. ap (λ (xs : List ℕ). at xs i) c.loop-i.invariant.rest.ways ∙ ap (λ (g : ℕ → ℕ). g i) c.requires.2.labels
          ∙ file_one_way c.args.file.now (rw c.rings_of-rings.ensures at r) i (omega (arith, c.of-head.ensures.rows)),
    )

pub returns-in-Err-clause-answers : goal.returns-in-Err-clause-answers
returns-in-Err-clause-answers c =
    rw (c.at.ensures.0, c.at.ensures.1)
    (checked_stop _ _ _ (sym c.of-head.ensures.elements) (sym c.rings_of-rings.ensures)
    (row_read c.row_from-row.ensures c.row_place-at.ensures c.rings_of-rings.ensures c.version_of-version.ensures c.way_at.ensures
    c.loop-i.invariant.rest.ways c.requires.2) c.in-Err.ensures c.loop-i.invariant.clear
    (omega (arith, c.of-head.ensures.rows)) (not_done c.in-Err.reason))

pub loop-i-preserved : goal.loop-i-preserved
loop-i-preserved c =
    let f = c.args.file.now in
    let v = c.loop-i.invariant in
    let i : c.loop-i.i < (file_table f).rows = omega (arith, c.of-head.ensures.rows) in
    let place : c.row_place-at.result ≡ header_size + row_size (file_rings f) (version f) * c.loop-i.i =
    c.row_place-at.ensures
    ∙ ap₂ (λ (r n : ℕ). header_size + row_size r n * c.loop-i.i) c.rings_of-rings.ensures c.version_of-version.ensures in
    let q =
    row_read c.row_from-row.ensures c.row_place-at.ensures c.rings_of-rings.ensures c.version_of-version.ensures c.way_at.ensures
    v.rest.ways c.requires.2 in record {
      clear = checked_next _ _ _ (sym c.of-head.ensures.elements) (sym c.rings_of-rings.ensures) q c.in_default.ensures v.clear i refl;
      decoded = decoding_next v.decoded (omega (arith, i, c.requires.0.few)) q.cost q.period (ap (λ (k : ℕ). at f (k + 4)) place)
          (ap (λ (k : ℕ). at f (k + 5)) place);
      rest = record { elements = v.rest.elements; rows = v.rest.rows; rings = v.rest.rings; ways = v.rest.ways };
    }

pub returns-clause-answers : goal.returns-clause-answers
returns-clause-answers c = checked_end c.loop-i.invariant.clear (omega (arith, c.loop-i-test.false, c.of-head.ensures.rows))
