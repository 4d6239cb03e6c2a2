-- `texts::show` meets its contract.
use Rattle.std.proofs.Common.{arith, sym, refl}
use lib.Seq.{length-take-le}
use Rattle.table.proofs.Reasons.{not_done}
use Rattle.file_report.proofs.Answers.{front, file_refused, file_few, file_told}
use Rattle.file_report.proofs.texts.show.Goals as goal

pub returns-in-Err : goal.returns-in-Err
returns-in-Err c =
    let A = c.put_refusal.ensures in
    record {
      bytes = _;
      allowed = file_refused _ _ _ _ _ _ _ _ _ c.in-Err.ensures (omega arith) _ c.number.ensures (not_done c.in-Err.refusal.reason);
      puts = A.0;
      fits = A.1;
    }

-- the rows that were read have room

pub slice_bounds-numbers-end : goal.slice_bounds-numbers-end
slice_bounds-numbers-end c = omega (arith, file_few _ _ _ _ _ _ _ _ _ c.in-Ok.ensures (omega arith) refl, c.read.auto)

pub slice_bounds-write-end-2 : goal.slice_bounds-write-end-2
slice_bounds-write-end-2 c =
    sym (length-take-le _ _ (omega (arith, file_few _ _ _ _ _ _ _ _ _ c.in-Ok.ensures (omega arith) refl, c.read.auto)))

-- so has the text

pub slice_bounds-text-end : goal.slice_bounds-text-end
slice_bounds-text-end c =
    let T =
    file_told _ _ _ _ _ _ _ _ _ c.in-Ok.ensures (omega arith) refl _ _ _ _ c.unwrap_or-size.ensures
    (λ i. omega (arith, c.type_inv.file i)) (omega arith) c.write-written.ensures in
    omega (arith, T.0, c.write-written.auto)

pub slice_bounds-put_bytes-end : goal.slice_bounds-put_bytes-end
slice_bounds-put_bytes-end c =
    let T =
    file_told _ _ _ _ _ _ _ _ _ c.in-Ok.ensures (omega arith) refl _ _ _ _ c.unwrap_or-size.ensures
    (λ i. omega (arith, c.type_inv.file i)) (omega arith) c.write-written.ensures in
    sym (length-take-le _ _ (omega (arith, T.0, c.write-written.auto)))

pub returns : goal.returns
returns c =
    let T =
    file_told _ _ _ _ _ _ _ _ _ c.in-Ok.ensures (omega arith) refl _ _ _ _ c.unwrap_or-size.ensures
    (λ i. omega (arith, c.type_inv.file i)) (omega arith) c.write-written.ensures in
    front _ _ T.1 T.0 c.put_bytes.ensures
