-- raise: what is refused of the table, or what the writer answers to its raised rows.
use Rattle.std.proofs.Common.{◌≡◌, ℕ, ◌≤◌, ◌*◌, List, take, Ok, arith, sym, ap, ◌∙◌}
use lib.Seq.{length-take-le}
use Rattle.rules.specs.Bounds.{max_rows}
use Rattle.raising.specs.declared.Raising.{Raising}
use Rattle.raising.specs.Raises.{RaisedBeside}
use Rattle.rules.specs.TableFile.{row_numbers, numbers, file_labelled}
use Rattle.rules.specs.Raising.{raised_labelled}
use Rattle.table.proofs.Reasons.{handed, not_done}
use Rattle.raising.proofs.Writing.{raising_none, raise_refused, raise_written, few, long_enough, rows_are, elements_are, numbers_are}
use Rattle.raising.proofs.raise.Goals as goal

pub returns-in_err-found : goal.returns-in_err-found
returns-in_err-found c =
    let r = c.in_err-found.field-0.0 in
    rw (handed r c.from_residual.ensures.1) (raise_refused _ _ c.in_err-found.ensures.answers (not_done r.reason))

-- the file's rows are few
rows : (f : List ℕ) (x : Raising) → RaisedBeside f (Ok x) → x.given.columns.rows ≤ max_rows
rows f x R = let a = raising_none f x R in omega (arith, few f a, rows_are f a x R)

pub put_all_numbers-requires : goal.put_all_numbers-requires
put_all_numbers-requires c = let l = rows _ _ c.in_ok-found.ensures in (l, omega (arith, l))

pub version_of-requires : goal.version_of-requires
version_of-requires c = omega (arith, long_enough _ (raising_none _ _ c.in_ok-found.ensures))

pub slice_bounds-numbers-end : goal.slice_bounds-numbers-end
slice_bounds-numbers-end c = omega (arith, rows _ _ c.in_ok-found.ensures, c.put_all_numbers.auto)

pub slice_bounds-write_plain-end : goal.slice_bounds-write_plain-end
slice_bounds-write_plain-end c = sym (length-take-le _ _ (omega (arith, rows _ _ c.in_ok-found.ensures, c.put_all_numbers.auto)))

pub returns : goal.returns
returns c =
    let f = c.args.file.now in
    let x = c.in_ok-found.found in
    let R = c.in_ok-found.ensures in
    let a = raising_none f x R in
    let xs : take (row_numbers * x.given.columns.rows) c.put_all_numbers.new.out ≡ numbers (raised_labelled (file_labelled f)) =
    ap (take (row_numbers * x.given.columns.rows)) c.put_all_numbers.ensures ∙ numbers_are f a x R _ in
    raise_written f a c.version_of.ensures (elements_are f a x R) (rows_are f a x R) xs c.write_plain.ensures
