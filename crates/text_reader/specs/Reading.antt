-- What is read of a line, and of a text's rows.
--
--   AreCells l r         r is what is refused of the first four fields of line l as numbers, or their numbers
--   IsRowOf l r          r is the row that line l says, with its last number for a label
--   in_ring k r           such a row in a table of k rings: with the direction and the label that its last number tells
--   IsForm k l r         r is what is refused of the form of row l, or the row
--   IsRowAt k M l i r    r is what is refused of line l as row i of k rings and M elements, or the row
--   IsHeading l r        r is what is refused of line l as the heading, or M and the number of rings
--   blame n M x          which field check n is told at, where x is the first end
--   Rest t k             the rows of text t are the lines from place k on
--   AreRows t was now r  r is what is refused of the rows of text t, or how many they are and whether one has a last field; `was` and
--                        `now` are what the memory for their numbers holds before and after
--   version_for k b       the version of the file with k rings, where b says whether a row has a last field
--   AreLines t was now r   the same of the heading and the rows of text t
use Rattle.std.specs.Prelude.{◌≡◌, Bool, ◌&&◌, cond, List, ℕ, ◌+◌, ◌≤◌, ◌<◌, eqb, leb, length, drop, Result, IfOk}
use Rattle.numbers.specs.Finite.{any}
use Rattle.numbers.specs.Lists.{at, each}
use Rattle.rules.specs.Bounds.{max_rows, max_rings}
use Rattle.rules.specs.TableFile.{version_1, version_2, way_in, label_in, numbers}
use Rattle.rules.specs.Refusals.{Answers}
use Rattle.rules.specs.Calls.{lent}
use Rattle.table.specs.declared.Row.{Row}
use Rattle.grammar.specs.TableText.{Part, some, lines, field, last, row, number, rings_in, text_rings, text_table, text_labelled}
use Rattle.grammar.specs.TableText.{text_mark, text_version, number_checks, heading_checks, form_checks, text_row_checks, text_line_checks}
use Rattle.text_reader.specs.Walk.{lines_at}
use Rattle.text_reader.specs.Faults.{number as told, place}
use Rattle.text_reader.specs.declared.faults.Fault.{Fault}
use Rattle.text_reader.specs.declared.Heading.{Heading}
use Rattle.text_reader.specs.declared.Rows.{Rows}
use Rattle.reader.specs.declared.Reading.{Reading}

pub record AreCells (l : Part) (r : Result (List ℕ) Fault) : Type 0 where
  pub answers : Answers (each 4 (λ k. number_checks (field l k))) (told r) (place r)
  pub value : IfOk r (λ v. (k : ℕ) → k < 4 → at v k ≡ number (field l k))
  pub size : IfOk r (λ v. length v ≡ 4)

pub record IsRowOf (l : Part) (r : Row) : Type 0 where
  pub cost : r.cost ≡ number (field l 0)
  pub period : r.period ≡ number (field l 1)
  pub first : r.first ≡ number (field l 2)
  pub second : r.second ≡ number (field l 3)
  pub label : r.label ≡ number (last l)

abbrev pub in_ring : ℕ → Row → Row
in_ring k r = record {
  cost = r.cost;
  period = r.period;
  first = r.first;
  second = r.second;
  way = way_in k r.label;
  label = label_in k r.label;
}

pub record IsForm (k : ℕ) (l : Part) (r : Result Row Fault) : Type 0 where
  pub answers : Answers (form_checks k l) (told r) (place r)
  pub row : IfOk r (λ x. IsRowOf l x)

pub record IsRowAt (k M : ℕ) (l : Part) (i : ℕ) (r : Result Row Fault) : Type 0 where
  pub answers : Answers (text_row_checks k M l i) (told r) (place r)
  pub row : IfOk r (λ x. IsRowOf l x)
  pub few : IfOk r (λ _. i < max_rows)

pub record IsHeading (l : Part) (r : Result Heading Fault) : Type 0 where
  pub answers : Answers (heading_checks l) (told r) (place r)
  pub elements : IfOk r (λ h. h.elements ≡ number (field l 1))
  pub rings : IfOk r (λ h. h.rings ≡ rings_in l)

abbrev pub blame : (n M x : ℕ) → ℕ
blame n M x = cond (eqb n 8) 1 (cond (eqb n 9) 0 (cond (eqb n 26) 4 (cond (leb 1 x && leb x M) 3 2)))

pub record Rest (t : List ℕ) (k : ℕ) : Type 0 where
  pub inside : k ≤ length t + 1
  pub left : drop 1 (lines t) ≡ lines_at t k
  pub there : 1 ≤ length (lines t)

pub record AreRows (t was now : List ℕ) (r : Result Rows Fault) : Type 0 where
  pub answers : Answers (each (text_table t).rows (λ i. text_row_checks (text_rings t) (text_table t).elements (row t i) i)) (told r)
      (place r)
  pub rows : IfOk r (λ x. x.rows ≡ (text_table t).rows)
  pub few : IfOk r (λ x. x.rows ≤ max_rows)
  pub labelled : IfOk r (λ x. x.labelled ≡ any (text_table t).rows (λ i. some (last (row t i)).bytes))
  pub holds : IfOk r (λ _. now ≡ lent (numbers (text_labelled t)) was)
  pub same : length now ≡ length was

abbrev pub version_for : ℕ → Bool → ℕ
version_for k b = cond (eqb k max_rings) version_1 (cond b version_2 version_1)

pub record AreLines (t was now : List ℕ) (r : Result Reading Fault) : Type 0 where
  pub answers : Answers (text_line_checks t) (told r) (place r)
  pub mark : IfOk r (λ x. x.mark ≡ text_mark t)
  pub version : IfOk r (λ x. x.version ≡ text_version t)
  pub elements : IfOk r (λ x. x.table.elements ≡ (text_table t).elements)
  pub rows : IfOk r (λ x. x.table.rows ≡ (text_table t).rows)
  pub few : IfOk r (λ x. x.table.rows ≤ max_rows)
  pub holds : IfOk r (λ _. now ≡ lent (numbers (text_labelled t)) was)
  pub same : length now ≡ length was
