-- `texts::make` meets its contract.
use Rattle.std.proofs.Common.{ℕ, ◌+◌, ◌*◌, ◌≤◌, arith, sym, ap, refl, ◌∙◌}
use native.Mathlib.Nat.{mul-le-mul}
use lib.Seq.{length-take-le}
use Rattle.rules.specs.TableFile.{header_size, row_size}
use Rattle.text_reader.proofs.Wrongs.{not_done}
use Rattle.file_report.proofs.Answers.{front, text_refused, text_few, text_made}
use Rattle.file_report.proofs.texts.make.Goals as goal

pub returns-in-Err : goal.returns-in-Err
returns-in-Err c =
    let A = c.put_fault.ensures in
    record {
      bytes = _;
      allowed =
          text_refused _ _ _ _ _ _ _ _ _ c.in-Err.ensures (omega arith) _ _ _ c.number.ensures (not_done c.in-Err.fault.wrong)
          c.spot_of.ensures.line c.spot_of.ensures.column;
      puts = A.0;
      fits = A.1;
    }

-- the rows that were read have room

pub overflow_mul-count : goal.overflow_mul-count
overflow_mul-count c = omega (arith, text_few _ _ _ _ _ _ _ _ _ c.in-Ok.ensures (omega arith) refl)

pub slice_bounds-numbers-end : goal.slice_bounds-numbers-end
slice_bounds-numbers-end c = omega (arith, text_few _ _ _ _ _ _ _ _ _ c.in-Ok.ensures (omega arith) refl, c.read.auto)

pub slice_bounds-write-end-2 : goal.slice_bounds-write-end-2
slice_bounds-write-end-2 c =
    sym (length-take-le _ _ (omega (arith, text_few _ _ _ _ _ _ _ _ _ c.in-Ok.ensures (omega arith) refl, c.read.auto)))

-- so has the file

pub overflow_mul-size : goal.overflow_mul-size
overflow_mul-size c =
    omega (arith, mul-le-mul c.row_bytes.ensures.1 (text_few _ _ _ _ _ _ _ _ _ c.in-Ok.ensures (omega arith) refl))

pub overflow_add-size : goal.overflow_add-size
overflow_add-size c =
    omega (arith, mul-le-mul c.row_bytes.ensures.1 (text_few _ _ _ _ _ _ _ _ _ c.in-Ok.ensures (omega arith) refl))

pub slice_bounds-file-end : goal.slice_bounds-file-end
slice_bounds-file-end c =
    omega (arith, mul-le-mul c.row_bytes.ensures.1 (text_few _ _ _ _ _ _ _ _ _ c.in-Ok.ensures (omega arith) refl), c.write.auto)

pub slice_bounds-put_bytes-end : goal.slice_bounds-put_bytes-end
slice_bounds-put_bytes-end c =
    sym
    (length-take-le _ _
    (omega (arith, mul-le-mul c.row_bytes.ensures.1 (text_few _ _ _ _ _ _ _ _ _ c.in-Ok.ensures (omega arith) refl), c.write.auto)))

pub returns : goal.returns
returns c =
    let R = c.in-Ok.ensures in
    let k : ℕ = c.in-Ok.found.table.rows in
    let l = mul-le-mul c.row_bytes.ensures.1 (text_few _ _ _ _ _ _ _ _ _ R (omega arith) refl) in
    let size : ℕ = header_size + c.row_bytes.result * k in
    front size _
    (text_made _ _ _ _ _ _ _ _ _ R (omega arith) refl size _ _ _ _
    (ap (λ (j : ℕ). header_size + j * k) (c.row_bytes.ensures.0 ∙ ap (λ (g : ℕ). row_size g c.in-Ok.found.version) c.rings_of.ensures))
    (omega (arith, l)) c.write.ensures)
    (omega (arith, l)) c.put_bytes.ensures
