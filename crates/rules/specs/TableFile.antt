-- Document 01, "Table file", with the two versions of #107 and the two rings of #112.
--
--   read16 f k           the 16 bits at byte k, low byte first
--   mark f               the first three bytes: RBT, or RB2 where there are two rings
--   version f            the 16 bits after them
--   rings_of m            how many rings a table has whose mark, or whose file, m is
--   mark_of r             the mark of a table with r rings
--   header_size           bytes before the first row
--   label_size v          bytes of a row's label, in version v
--   last_size r v         bytes of a row past its six: those of its label or, with two rings, of its direction
--   row_with k            bytes a row with k bytes past its six
--   row_size r v          bytes a row, with r rings and in version v
--   table_with r k f      the table of r rings that the file holds if its rows have k bytes past their six
--   labelled_with r k f   that table and its labels
--   file_rings f          how many rings the file's table has
--   file_table f          the table that the file holds
--   file_labelled f       that table and its labels
--   row_numbers           numbers a row, in memory
--   way_in r x, label_in r x   the direction and the label that a row's last number x tells, with r rings
--   last_of r way label   the last number that tells them
--   last_number_of t i       row i's last number
--   memory_with r M n xs  the table of r rings, M elements and n rows that a slice of numbers holds
--   memory_labelled_with r M n xs   that table and its labels
--   memory_table M n xs, memory_labelled M n xs   the same with one ring
--   memory_row t i        the numbers of row i, in memory
--   numbers t            the numbers of all rows, in memory
--   file_header m v M n   the bytes before the first row, with mark m and in version v
--   file_row k t i        the bytes of row i, with k bytes past its six
--   row_bytes k t         the bytes of all rows, with k bytes past their six
--   bytes v t            the file of a table, in version v
use Rattle.std.specs.Prelude.{cond, List, [], ◌∷◌, ◌++◌, ℕ, ◌+◌, ◌*◌, ◌/◌, ◌%◌, eqb, take}
use Rattle.numbers.specs.Lists.{at, each}
use Rattle.numbers.specs.Codec.{read_low, write_low}
use Rattle.rules.specs.Bounds.{max_rings}
use Rattle.rules.specs.Bus.{Table, Labelled}

-- "RBT"
abbrev pub table_mark : List ℕ
table_mark = 0x52 ∷ 0x42 ∷ 0x54 ∷ []

-- "RB2"
abbrev pub board_mark : List ℕ
board_mark = 0x52 ∷ 0x42 ∷ 0x32 ∷ []

abbrev pub version_1 : ℕ
version_1 = 1

abbrev pub version_2 : ℕ
version_2 = 2

abbrev pub header_size : ℕ
header_size = 7

-- A board has two rings, one each way. The two marks differ in the last byte.
unfoldable pub rings_of : List ℕ → ℕ
rings_of m = cond (eqb (at m 2) 0x32) max_rings 1

unfoldable pub mark_of : ℕ → List ℕ
mark_of r = cond (eqb r max_rings) board_mark table_mark

-- 16 bits in version 2
unfoldable pub label_size : ℕ → ℕ
label_size v = cond (eqb v version_2) 2 0

-- Rows of two rings have a direction byte, and no label.
unfoldable pub last_size : (r v : ℕ) → ℕ
last_size r v = cond (eqb r max_rings) 1 (label_size v)

-- the six bytes as they were, then the label or the direction
abbrev pub row_with : ℕ → ℕ
row_with k = 6 + k

abbrev pub row_size : (r v : ℕ) → ℕ
row_size r v = row_with (last_size r v)

abbrev pub row_numbers : ℕ
row_numbers = 5

-- A row's last number, in the file and in memory, is its direction where there are two rings, else its label.
unfoldable pub way_in : (r x : ℕ) → ℕ
way_in r x = cond (eqb r max_rings) x 0

unfoldable pub label_in : (r x : ℕ) → ℕ
label_in r x = cond (eqb r max_rings) 0 x

unfoldable pub last_of : (r way label : ℕ) → ℕ
last_of r way label = cond (eqb r max_rings) way label

abbrev pub last_number_of : Labelled → ℕ → ℕ
last_number_of t i = last_of t.table.rings (t.table.way i) (t.label i)

abbrev pub read16 : List ℕ → ℕ → ℕ
read16 f k = at f k + 256 * at f (k + 1)

abbrev pub write16 : ℕ → List ℕ
write16 x = x % 256 ∷ x / 256 ∷ []

abbrev pub mark : List ℕ → List ℕ
mark f = take 3 f

abbrev pub version : List ℕ → ℕ
version f = read16 f 3

-- M, one byte; number of rows, one byte; then the rows: cost and period, 16 bits each, first, second, and the label or the direction.
abbrev pub table_with : (r k : ℕ) → List ℕ → Table
table_with r k f = record {
  elements = at f 5;
  rows = at f 6;
  rings = r;
  cost = λ i. read16 f (header_size + row_with k * i);
  period = λ i. read16 f (header_size + row_with k * i + 2);
  first = λ i. at f (header_size + row_with k * i + 4);
  second = λ i. at f (header_size + row_with k * i + 5);
  way = λ i. way_in r (read_low k f (header_size + row_with k * i + 6));
}

-- A label of no bytes is 0.
abbrev pub labelled_with : (r k : ℕ) → List ℕ → Labelled
labelled_with r k f =
    record { table = table_with r k f; label = λ i. label_in r (read_low k f (header_size + row_with k * i + 6)) }

abbrev pub file_rings : List ℕ → ℕ
file_rings f = rings_of f

abbrev pub file_table : List ℕ → Table
file_table f = table_with (file_rings f) (last_size (file_rings f) (version f)) f

abbrev pub file_labelled : List ℕ → Labelled
file_labelled f = labelled_with (file_rings f) (last_size (file_rings f) (version f)) f

-- In memory a row is five 16-bit numbers in that order, in all files.
abbrev pub memory_with : (r M n : ℕ) → List ℕ → Table
memory_with r M n xs = record {
  elements = M;
  rows = n;
  rings = r;
  cost = λ i. at xs (row_numbers * i);
  period = λ i. at xs (row_numbers * i + 1);
  first = λ i. at xs (row_numbers * i + 2);
  second = λ i. at xs (row_numbers * i + 3);
  way = λ i. way_in r (at xs (row_numbers * i + 4));
}

abbrev pub memory_labelled_with : (r M n : ℕ) → List ℕ → Labelled
memory_labelled_with r M n xs = record { table = memory_with r M n xs; label = λ i. label_in r (at xs (row_numbers * i + 4)) }

abbrev pub memory_table : ℕ → ℕ → List ℕ → Table
memory_table = memory_with 1

abbrev pub memory_labelled : ℕ → ℕ → List ℕ → Labelled
memory_labelled = memory_labelled_with 1

abbrev pub memory_row : Labelled → ℕ → List ℕ
memory_row t i = t.table.cost i ∷ t.table.period i ∷ t.table.first i ∷ t.table.second i ∷ last_number_of t i ∷ []

unfoldable pub numbers : Labelled → List ℕ
numbers t = each t.table.rows (memory_row t)

abbrev pub file_header : List ℕ → (v M n : ℕ) → List ℕ
file_header m v M n = m ++ write16 v ++ (M ∷ n ∷ [])

abbrev pub file_row : ℕ → Labelled → ℕ → List ℕ
file_row k t i =
    (write16 (t.table.cost i) ++ write16 (t.table.period i) ++ (t.table.first i ∷ t.table.second i ∷ []))
    ++ write_low k (last_number_of t i)

unfoldable pub row_bytes : ℕ → Labelled → List ℕ
row_bytes k t = each t.table.rows (file_row k t)

unfoldable pub bytes : ℕ → Labelled → List ℕ
bytes v t =
    file_header (mark_of t.table.rings) v t.table.elements t.table.rows ++ row_bytes (last_size t.table.rings v) t
