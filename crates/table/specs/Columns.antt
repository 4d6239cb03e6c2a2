-- A table in memory.
--
--   ByRow n g xs       the array xs holds g of each of n rows, and 0 past the last row
--   column_table M n r ..   the table of M elements, n rows and r rings whose numbers are the columns'
--   column_labelled M n r ..   that table, with a column of labels
--   table_of c          the table that the columns c hold
--   Holds t c          the columns hold t: only one c does (`decoding/proofs/Decoding`)
--   HoldsLabels g xs   the array xs holds the labels g: only one xs does
--   HasRow .. i d l r   r has the numbers that stand in the columns at i, and direction d and label l
--   OneWay r n way     where there is one ring, r < 2, each of n rows has direction 0
--   no_columns          columns of nothing but 0
--   no_labels           labels of nothing but 0
--   Whole f            file f is as long as it says, and its rows fit columns
use Rattle.std.specs.Prelude.{◌≡◌, List, ℕ, ◌+◌, ◌*◌, ◌≤◌, ◌<◌, length, replicate}
use Rattle.numbers.specs.Lists.{at}
use Rattle.rules.specs.Bounds.{max_rows, max_rings}
use Rattle.rules.specs.Bus.{Table, Labelled}
use Rattle.rules.specs.TableFile.{header_size, row_size, version, file_rings, file_table}
use Rattle.table.specs.declared.columns.Columns.{Columns}
use Rattle.table.specs.declared.Row.{Row}

pub record ByRow (n : ℕ) (g : ℕ → ℕ) (xs : List ℕ) : Type 0 where
  pub size : length xs ≡ max_rows
  pub row : (i : ℕ) → i < n → at xs i ≡ g i
  pub rest : (i : ℕ) → n ≤ i → i < max_rows → at xs i ≡ 0

abbrev pub column_table : (M n r : ℕ) (cost period first second way : List ℕ) → Table
column_table M n r cost period first second way = record {
  elements = M;
  rows = n;
  rings = r;
  cost = at cost;
  period = at period;
  first = at first;
  second = at second;
  way = at way;
}

abbrev pub column_labelled : (M n r : ℕ) (cost period first second way label : List ℕ) → Labelled
column_labelled M n r cost period first second way label =
    record { table = column_table M n r cost period first second way; label = at label }

abbrev pub table_of : Columns → Table
table_of c = column_table c.elements c.rows c.rings c.cost c.period c.first c.second c.way

pub record Holds (t : Table) (c : Columns) : Type 0 where
  pub table : table_of c ≡ t
  pub costs : length c.cost ≡ max_rows
  pub periods : length c.period ≡ max_rows
  pub firsts : length c.first ≡ max_rows
  pub seconds : length c.second ≡ max_rows
  pub ways : length c.way ≡ max_rows

pub record HasRow (costs periods firsts seconds : List ℕ) (i d l : ℕ) (r : Row) : Type 0 where
  pub cost : r.cost ≡ at costs i
  pub period : r.period ≡ at periods i
  pub first : r.first ≡ at firsts i
  pub second : r.second ≡ at seconds i
  pub way : r.way ≡ d
  pub label : r.label ≡ l

pub record HoldsLabels (g : ℕ → ℕ) (xs : List ℕ) : Type 0 where
  pub labels : at xs ≡ g
  pub size : length xs ≡ max_rows

abbrev pub OneWay : (r n : ℕ) → (way : ℕ → ℕ) → Type 0
OneWay r n way = r < max_rings → (i : ℕ) → i < n → way i ≡ 0

abbrev pub no_columns : Columns
no_columns = record {
  elements = 0;
  rows = 0;
  rings = 0;
  cost = replicate max_rows 0;
  period = replicate max_rows 0;
  first = replicate max_rows 0;
  second = replicate max_rows 0;
  way = replicate max_rows 0;
}

abbrev pub no_labels : List ℕ
no_labels = replicate max_rows 0

pub record Whole (f : List ℕ) : Type 0 where
  pub size : length f ≡ header_size + row_size (file_rings f) (version f) * (file_table f).rows
  pub few : (file_table f).rows ≤ max_rows
