-- The code's tables and rows, as document 01's.
--
--   IsHead f r         r is what file f says of its table
--   IsRow t i r        r is row i of table t, with its label
--   single M n r       the table of M elements and n rings that has r as its only row
--   alone n r          such a table, with r's label
--   sized M n          a table of which only the elements and the number of rows are told
--   in_memory n r       the numbers of r in memory, in a table of n rings
--   in_file n k r       the bytes of r in a file of n rings, with k bytes past its six
--   longest_row        no row has more bytes
--   EndsFit t          every end fits a byte, and every direction
use Rattle.std.specs.Prelude.{◌≡◌, List, [], ℕ, ◌<◌}
use Rattle.rules.specs.Bus.{Table, Labelled}
use Rattle.rules.specs.TableFile.{row_with, file_table, memory_table, memory_row, file_row}
use Rattle.table.specs.declared.Table.{Table as Head}
use Rattle.table.specs.declared.Row.{Row}

pub record IsHead (f : List ℕ) (r : Head) : Type 0 where
  pub elements : r.elements ≡ (file_table f).elements
  pub rows : r.rows ≡ (file_table f).rows
  pub elements_byte : r.elements < 256
  pub rows_byte : r.rows < 256

pub record IsRow (t : Labelled) (i : ℕ) (r : Row) : Type 0 where
  pub cost : r.cost ≡ t.table.cost i
  pub period : r.period ≡ t.table.period i
  pub first : r.first ≡ t.table.first i
  pub second : r.second ≡ t.table.second i
  pub way : r.way ≡ t.table.way i
  pub label : r.label ≡ t.label i

abbrev pub single : (M n : ℕ) → Row → Table
single M n r = record {
  elements = M;
  rows = 1;
  rings = n;
  cost = λ i. r.cost;
  period = λ i. r.period;
  first = λ i. r.first;
  second = λ i. r.second;
  way = λ i. r.way;
}

abbrev pub sized : ℕ → ℕ → Table
sized M n = memory_table M n []

abbrev pub alone : ℕ → Row → Labelled
alone n r = record { table = single 0 n r; label = λ i. r.label }

abbrev pub in_memory : ℕ → Row → List ℕ
in_memory n r = memory_row (alone n r) 0

abbrev pub in_file : (n k : ℕ) → Row → List ℕ
in_file n k r = file_row k (alone n r) 0

abbrev pub longest_row : ℕ
longest_row = row_with 2

pub record EndsFit (t : Table) : Type 0 where
  pub first : (i : ℕ) → i < t.rows → t.first i < 256
  pub second : (i : ℕ) → i < t.rows → t.second i < 256
  pub way : (i : ℕ) → i < t.rows → t.way i < 256
