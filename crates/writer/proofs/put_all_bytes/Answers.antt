-- put_all_bytes: the rows before row `i` are written.
use Rattle.std.proofs.Common.{◌≡◌, ℕ, ◌++◌, ◌+◌, ◌*◌, ◌≤◌, length, take, arith, subst}
use native.Mathlib.Nat.{mul-le-mul_left}
use Rattle.numbers.specs.Lists.{each}
use Rattle.numbers.proofs.Lists.{Filled, filled_front}
use Rattle.numbers.proofs.Codec.{filled_rows, filled_row}
use Rattle.rules.specs.TableFile.{header_size, last_size, row_size, memory_labelled_with, file_row, row_bytes}
use Rattle.rules.proofs.Calls.{filled_lent}
use Rattle.table.specs.Rows.{alone}
use Rattle.table.proofs.RowSizes.{row_length}
use Rattle.writer.proofs.Calls.{file_row_lem}
use Rattle.writer.proofs.put_all_bytes.Goals as goal

pub loop-i-init : goal.loop-i-init
loop-i-init c =
    let a = c.args in
    let e : header_size ≡ header_size + row_size a.rings a.version * 0 = omega arith in
    let front = take header_size a.out.now in
    let rows = file_row (last_size a.rings a.version) (memory_labelled_with a.rings 0 a.rows a.numbers.now) in
    subst (λ (n : ℕ). Filled a.out.now a.out.now n (front ++ each 0 rows)) e
    (filled_rows front rows (filled_front a.out.now header_size (omega (arith, c.requires.2))))

pub put_row-requires : goal.put_row-requires
put_row-requires c =
    let l = c.loop-i-test.true in
    let q = c.row_of.ensures 0 c.args.rows in (
      omega (
        arith,
        c.requires.2,
        c.loop-i.invariant.same,
        c.row_place.ensures,
        mul-le-mul_left (row_size c.args.rings c.args.version) l,
      ),
      rw q.first (c.requires.3.first c.loop-i.i l),
      rw q.second (c.requires.3.second c.loop-i.i l),
      rw q.way (c.requires.3.way c.loop-i.i l),
    )

pub loop-i-preserved : goal.loop-i-preserved
loop-i-preserved c =
    let a = c.args in
    let i = c.loop-i.i in
    let k = last_size a.rings a.version in
    let rows = file_row k (memory_labelled_with a.rings 0 a.rows a.numbers.now) in
    let q = file_row_lem k (c.row_of.ensures 0 a.rows) in
    let more = mul-le-mul_left (row_size a.rings a.version) c.loop-i-test.true in
    let room : header_size + row_size a.rings a.version * (i + 1) ≤ length a.out.now = omega (arith, c.requires.2, more) in
    let e = rw c.row_place.ensures at c.put_row.ensures in
    filled_row {i = i} (take header_size a.out.now) rows _ _ c.loop-i.invariant e q
    (omega (arith, row_length k (alone a.rings c.row_of.result) 0)) room

pub returns : goal.returns
unfolding row_bytes
returns c =
    let e : c.loop-i.i ≡ c.args.rows = omega arith in
    rw e at (filled_lent c.loop-i.invariant)
