-- write_with: where the slice has passed and the output is long enough, the text is put.
use Rattle.std.proofs.Common.{ℕ, List, ◌*◌, ◌≤◌, length, refl, arith}
use Rattle.rules.specs.Bounds.{max_rows}
use Rattle.rules.specs.TableFile.{row_numbers}
use Rattle.rules.specs.Refusals.{Answers, version_checks}
use Rattle.rules.proofs.Answers.{None, none_of}
use Rattle.table.proofs.Faults.{memory_sizes, version_numbered, version_known}
use Rattle.table.proofs.Reasons.{handed, not_done}
use Rattle.text_writer.proofs.Written.{put_front, write_refused, write_short, write_done}
use Rattle.text_writer.proofs.write_with.Goals as goal

module _ (r v M n : ℕ) (xs : List ℕ) (a : Answers (version_checks r v M n xs) 0 0) where
  -- the slice has passed
  none : None (version_checks r v M n xs)
  none = none_of _ _ (version_numbered r M n xs v) a

  -- and holds its rows
  rows : (n ≤ max_rows) × (row_numbers * n ≤ length xs)
  rows = let s = memory_sizes _ _ _ _ (version_known r M n xs v none).1 in (s.0, omega (arith, s.1))

pub returns-in_err-check_version : goal.returns-in_err-check_version
returns-in_err-check_version c =
    let r = c.in_err-check_version.field-0.0 in
    rw (handed r c.from_residual.ensures.1) (write_refused _ _ _ _ _ _ _ _ c.in_err-check_version.ensures (not_done r.reason))

pub text_size-size-requires : goal.text_size-size-requires
text_size-size-requires c = rows _ _ _ _ _ c.in_ok-check_version.ensures

pub returns-then-out-size : goal.returns-then-out-size
returns-then-out-size c =
    rw c.into.ensures
    (write_short _ _ _ _ _ _ (none _ _ _ _ _ c.in_ok-check_version.ensures) (omega (arith, c.text_size-size.ensures, c.if-out-size.true)))

pub put_text-requires : goal.put_text-requires
put_text-requires c = rows _ _ _ _ _ c.in_ok-check_version.ensures

pub returns : goal.returns
returns c =
    write_done _ _ _ _ _ _ _ _ _ _ c.in_ok-check_version.ensures refl
    (λ l. let q : ⊥ = omega (arith, c.text_size-size.ensures, c.if-out-size.false) in q)
    (put_front c.put_text.ensures (omega (arith, c.text_size-size.ensures, c.if-out-size.false))) c.text_size-size.ensures
