-- How many bytes a row has past its six, for its label or its direction, and where rows lie in a file.
use mathlib.Core.Path.{◌≡◌, ap, ◌∙◌}
use mathlib.Core.Logic.{◌≢◌}
use mathlib.Core.List.{List, [], ◌∷◌, ◌++◌}
use Prim.Native.Nat.{ℕ, ◌+◌, ◌*◌, ◌≤◌, ◌<◌}
use native.Mathlib.Nat.{mul-le-mul_left}
use native.Mathlib.Omega.{arith}
use lib.Dec.{eqb, eqb→eq}
use lib.ListN.{length, length-append}
use Rattle.numbers.specs.Codec.{write_low}
use Rattle.numbers.proofs.Codec.{low_length}
use Rattle.numbers.proofs.Truth.{is_false}
use Rattle.rules.specs.Bus.{Labelled}
use Rattle.rules.specs.Bounds.{max_rings}
use Rattle.rules.specs.TableFile.{version_2, header_size, label_size, last_size, last_number_of, row_with, row_size, write16, version}
use Rattle.rules.specs.TableFile.{file_rings, file_table, file_row}
use Rattle.table.specs.Columns.{Whole}

pub label_two : {v : ℕ} → v ≡ version_2 → label_size v ≡ 2
unfolding label_size
label_two e = rw e

pub label_none : {v : ℕ} → v ≢ version_2 → label_size v ≡ 0
unfolding label_size
label_none {v} h = rw (is_false (eqb v version_2) (λ t. h (eqb→eq v version_2 t)))

-- with two rings a byte of direction, else those of the label
pub last_way : {r : ℕ} (v : ℕ) → r ≡ max_rings → last_size r v ≡ 1
unfolding last_size
last_way v e = rw e

pub last_label : {r : ℕ} (v : ℕ) → r ≢ max_rings → last_size r v ≡ label_size v
unfolding last_size
last_label {r} v h = rw (is_false (eqb r max_rings) (λ t. h (eqb→eq r max_rings t)))

pub row_length : (k : ℕ) (t : Labelled) (i : ℕ) → length (file_row k t i) ≡ row_with k
row_length k t i =
    length-append (write16 (t.table.cost i) ++ write16 (t.table.period i) ++ (t.table.first i ∷ t.table.second i ∷ []))
    (write_low k (last_number_of t i))
    ∙ ap (λ (n : ℕ). 6 + n) (low_length k (last_number_of t i))

-- a row of a file that is as long as it says lies within it
pub row_inside : {f : List ℕ} {i : ℕ} → Whole f → i < (file_table f).rows
    → header_size + row_size (file_rings f) (version f) * i + row_size (file_rings f) (version f) ≤ length f
row_inside {f} {i} w l = omega (arith, w.size, mul-le-mul_left (row_size (file_rings f) (version f)) l)
