-- decode_into: past the header's checks the columns are written, and the rows checked.
use Rattle.std.proofs.Common.{ℕ, arith, refl, List}
use Rattle.rules.proofs.Answers.{None, none_of}
use Rattle.rules.specs.Refusals.{Answers, header_checks}
use Rattle.rules.specs.TableFile.{file_table}
use Rattle.table.proofs.Reasons.{handed}
use Rattle.table.specs.Columns.{Whole, HoldsLabels}
use Rattle.decoding.specs.Decoded.{DecodingTo}
use Rattle.table.proofs.Faults.{header_numbered, header_whole}
use Rattle.decoding.proofs.Decoding.{decoding_start, decoding_end, into_header, into_row, into_all}
use Rattle.decoding.proofs.decode_into.Goals as goal

-- the header has passed
none : (f : List ℕ) → Answers (header_checks f) 0 0 → None (header_checks f)
none f a = none_of _ 0 (header_numbered f) a

whole : (f : List ℕ) → Answers (header_checks f) 0 0 → Whole f
whole f a = header_whole f (none f a)

pub returns-in_err-header_fault : goal.returns-in_err-header_fault
returns-in_err-header_fault c =
    rw (handed (record { reason = c.in_err-header_fault.field-0.0; place = 0 }) c.from_residual.ensures.1)
    (into_header _ _ c.in_err-header_fault.ensures (refl, refl, refl))

pub put_ways-requires : goal.put_ways-requires
put_ways-requires c = (whole _ c.in_ok-header_fault.ensures, c.requires.ways)

pub put_rows-requires : goal.put_rows-requires
put_rows-requires c =
    let start : DecodingTo (file_table c.args.file.now) 0 c.args.table.now = decoding_start _ c.requires in (
      whole _ c.in_ok-header_fault.ensures,
      record { costs = start.costs; periods = start.periods; firsts = start.firsts; seconds = start.seconds },
      c.put_ways.ensures,
    )

pub returns-in_err-put_rows : goal.returns-in_err-put_rows
returns-in_err-put_rows c =
    let rest = c.in_err-put_rows.ensures.rest in
    rw (handed c.in_err-put_rows.field-0.0 c.from_residual-in_err-put_rows.ensures.1)
    (into_row _ (none _ c.in_ok-header_fault.ensures) _ c.in_err-put_rows.ensures.answers
    (rest.elements, rest.rows, rest.rings))

pub of-head-requires : goal.of-head-requires
of-head-requires c = omega (arith, (whole _ c.in_ok-header_fault.ensures).size)

pub rings_of-table-requires : goal.rings_of-table-requires
rings_of-table-requires c = omega (arith, (whole _ c.in_ok-header_fault.ensures).size)

pub returns : goal.returns
returns c =
    let f = c.args.file.now in
    let a = c.in_ok-header_fault.ensures in
    let e = c.in_ok-put_rows.ensures in
    let rows : DecodingTo (file_table f) (file_table f).rows c.put_rows.new.table = e.rows in
    let held : HoldsLabels (file_table f).way c.put_rows.new.table.way = rw e.rest.ways c.put_ways.ensures in
    into_all f (none f a) e.answers
    (decoding_end _ (whole f a) c.of-head.ensures.elements c.of-head.ensures.rows c.rings_of-table.ensures
    (record { costs = rows.costs; periods = rows.periods; firsts = rows.firsts; seconds = rows.seconds }) held)
