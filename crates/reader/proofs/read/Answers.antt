-- read: where the file has passed and the output is long enough, its rows' numbers are put.
use Rattle.std.proofs.Common.{◌≡◌, ℕ, List, ◌≤◌, arith, refl, ap}
use Rattle.rules.specs.Bounds.{max_rows}
use Rattle.rules.specs.Bus.{Table}
use Rattle.rules.specs.TableFile.{mark, file_table, file_labelled, numbers}
use Rattle.rules.specs.Refusals.{Answers, header_checks, file_checks}
use Rattle.rules.proofs.Answers.{None, none_of, none_left}
use Rattle.table.specs.Columns.{column_labelled, Holds}
use Rattle.table.specs.declared.columns.Columns.{Columns}
use Rattle.table.proofs.Faults.{Marked, file_numbered, header_split, passed_none}
use Rattle.table.proofs.Reasons.{handed, not_done}
use Rattle.reader.proofs.Calls.{numbers_read, mark_read, read_refused, read_short, read_done}
use Rattle.reader.proofs.read.Goals as goal

module _ (f : List ℕ) (a : Answers (file_checks f) 0 0) where
  -- the file has passed
  none : None (file_checks f)
  none = none_of (file_checks f) 0 (file_numbered f) a

  marks : Marked (mark f)
  unfolding file_checks
  marks = (header_split f (none_left (header_checks f) _ none)).1

  few : {u : Columns} → Holds (file_table f) u → u.rows ≤ max_rows
  few H = omega (arith, ap (λ (t : Table). t.rows) H.table, (passed_none f none).sound.rows_high)

pub returns-in_err-found : goal.returns-in_err-found
returns-in_err-found c =
    let r = c.in_err-found.field-0.0 in
    rw (handed r c.from_residual.ensures.1) (read_refused _ _ _ _ c.in_err-found.ensures.answers (not_done r.reason))

pub returns-then-out-table : goal.returns-then-out-table
returns-then-out-table c =
    let found = c.in_ok-found.ensures in
    rw c.into.ensures
    (read_short _ _ (none _ found.answers) (omega (arith, c.if-out-table.true, ap (λ (t : Table). t.rows) found.passed.table)))

pub last_numbers-last-requires : goal.last_numbers-last-requires
last_numbers-last-requires c = few _ c.in_ok-found.ensures.answers c.in_ok-found.ensures.passed

pub put_all_numbers-requires : goal.put_all_numbers-requires
put_all_numbers-requires c =
    (few _ c.in_ok-found.ensures.answers c.in_ok-found.ensures.passed, omega (arith, c.if-out-table.false))

pub version_of-requires : goal.version_of-requires
version_of-requires c = omega (arith, (passed_none _ (none _ c.in_ok-found.ensures.answers)).size)

pub returns : goal.returns
unfolding numbers
returns c =
    let f = c.args.file.now in
    let u = c.in_ok-found.found.columns in
    let found = c.in_ok-found.ensures in
    let table = found.passed.table in
    let t : column_labelled u.elements u.rows u.rings u.cost u.period u.first u.second u.way c.in_ok-found.found.labels
    ≡ file_labelled f =
    λ k. record { table = table k; label = found.labelled.labels k } in
    read_done f c.args.out.now _ _ _ _ _ _ _ found.answers refl
    (λ l. let q : ⊥ = omega (arith, c.if-out-table.false, ap (λ (t : Table). t.rows) table) in q)
    (mark_read f c.mark_byte.ensures (ap (λ (t : Table). t.rings) table) (marks f found.answers))
    c.version_of.ensures (ap (λ (t : Table). t.elements) table) (ap (λ (t : Table). t.rows) table)
    (numbers_read u.elements u.rows u.rings u.cost u.period u.first u.second u.way c.in_ok-found.found.labels
    c.last_numbers-last.result c.args.out.now c.put_all_numbers.ensures c.last_numbers-last.ensures t)
