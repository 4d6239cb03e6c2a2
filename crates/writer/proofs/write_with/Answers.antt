-- write_with: where the slice has passed and the output is long enough, the header and the rows are written.
use Rattle.std.proofs.Common.{◌≡◌, ℕ, List, [], ◌∷◌, ◌++◌, ◌*◌, ◌≤◌, ◌<◌, length, refl, ap, ◌∙◌, ⊎_elim, arith}
use lib.Seq.{length-sets}
use Rattle.rules.specs.Bounds.{max_rings}
use Rattle.rules.specs.TableFile.{header_size, last_size, row_numbers, memory_with, memory_labelled_with, file_header, row_bytes, bytes}
use Rattle.rules.specs.Refusals.{Answers, version_checks}
use Rattle.rules.proofs.Answers.{None, none_of}
use Rattle.rules.specs.Calls.{lent}
use Rattle.rules.proofs.Calls.{lent_headed}
use Rattle.table.specs.Sound.{Sound}
use Rattle.table.proofs.Faults.{memory_sound, ends_fit, version_numbered, version_known}
use Rattle.table.proofs.Reasons.{handed, not_done}
use Rattle.writer.proofs.Calls.{written_refused, written_short, written_done}
use Rattle.writer.proofs.write_with.Goals as goal

-- by its last byte
abbrev mark : ℕ → List ℕ
mark last = 0x52 ∷ 0x42 ∷ last ∷ []

module _ (r v M n : ℕ) (xs : List ℕ) (a : Answers (version_checks r v M n xs) 0 0) where
  -- the slice has passed
  none : None (version_checks r v M n xs)
  none = none_of _ _ (version_numbered r M n xs v) a

  sound : r ≤ max_rings → Sound (memory_with r M n xs) × (length xs ≡ row_numbers * n)
  sound few = memory_sound r M n xs few (version_known r M n xs v none).1

  -- the version fits 16 bits
  small : v < 65536
  small = ⊎_elim (λ e. omega (arith, e)) (λ e. omega (arith, e.0)) (version_known r M n xs v none).0

pub returns-in_err-check_version : goal.returns-in_err-check_version
returns-in_err-check_version c =
    let r = c.in_err-check_version.field-0.0 in
    rw (handed r c.from_residual.ensures.1)
    (written_refused _ _ _ _ _ _ _ _ c.in_err-check_version.ensures (not_done r.reason))

pub row_place-requires : goal.row_place-requires
row_place-requires c = (sound _ _ _ _ _ c.in_ok-check_version.ensures c.requires).0.rows_high

pub returns-then-out-row_place : goal.returns-then-out-row_place
returns-then-out-row_place c =
    rw c.into.ensures
    (written_short _ _ _ _ _ _ (none _ _ _ _ _ c.in_ok-check_version.ensures)
    (omega (arith, c.row_place.ensures, c.if-out-row_place.true)))

pub overflow_cast-version : goal.overflow_cast-version
overflow_cast-version c = omega (arith, small _ _ _ _ _ c.in_ok-check_version.ensures)

pub overflow_cast-elements : goal.overflow_cast-elements
overflow_cast-elements c = omega (arith, (sound _ _ _ _ _ c.in_ok-check_version.ensures c.requires).0.elements_high)

pub overflow_cast-rows : goal.overflow_cast-rows
overflow_cast-rows c = omega (arith, (sound _ _ _ _ _ c.in_ok-check_version.ensures c.requires).0.rows_high)

pub put_all_bytes-requires : goal.put_all_bytes-requires
put_all_bytes-requires c =
    let a = c.args in
    let s = sound _ _ _ _ _ c.in_ok-check_version.ensures c.requires in
    let e = ap length c.put_header.ensures
    ∙ length-sets a.out.now 0 (file_header (mark c.mark_byte.result) a.version a.elements a.rows) in (
      s.0.rows_high,
      omega (arith, s.1),
      omega (arith, e, c.if-out-row_place.false, c.row_place.ensures),
      ends_fit a.rings a.elements a.rows a.numbers.now s.0,
    )

pub returns : goal.returns
unfolding row_bytes bytes
returns c =
    let a = c.args in
    let rows = row_bytes (last_size a.rings a.version) (memory_labelled_with a.rings 0 a.rows a.numbers.now) in
    let room = c.row_place.ensures in
    written_done _ _ _ _ _ _ _ _ _ c.in_ok-check_version.ensures refl
    (λ l. let q : ⊥ = omega (arith, room, c.if-out-row_place.false) in q)
    (lent_headed a.out.now _ _ (file_header (mark c.mark_byte.result) a.version a.elements a.rows) rows header_size refl
    (omega (arith, room, c.if-out-row_place.false))
    c.put_header.ensures c.put_all_bytes.ensures
    ∙ ap (λ (k : List ℕ). lent (file_header k a.version a.elements a.rows ++ rows) a.out.now) c.mark_byte.ensures)
