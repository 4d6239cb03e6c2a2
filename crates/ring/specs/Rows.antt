-- Rows on the rings by their two ends and their direction, and the line of the code.
--
--   Routes M n first second way   the ends of n rows are elements of a ring of M, and there is a ring for each row
--   on_ring M n first second way   a table of which only the rings and the rows' ends and directions are told; cuts and line of any table
--                                 are its (proofs/Rows)
--   RoutesOf c n                   the first n rows of the columns c are such rows
--   Routed c                       all their rows are, and run clockwise where there is one ring
--   rings_of c n                   the table of which only that is told of their first n rows
--   segments_of c i                the word of the segments that their row i uses
--   cut_of c q d                   c for the ring that runs clockwise, q for the other
--   Renumbered M c q n first second way r   r holds the numbers of n rows' ends on the line of both rings, whose cuts are c and q, and 0
--                                 past the last row
use Rattle.std.specs.Prelude.{cond, ℕ, ◌≤◌, ◌<◌, eqb}
use Rattle.numbers.specs.Lists.{at}
use Rattle.rules.specs.Bounds.{max_elements, max_rows, max_rings}
use Rattle.rules.specs.Bus.{Table, clockwise}
use Rattle.table.specs.Columns.{ByRow, OneWay}
use Rattle.table.specs.declared.columns.Columns.{Columns}
use Rattle.ring.specs.Route.{Element, row_segments, row_element, row_end}
use Rattle.ring.specs.declared.Line.{Line}

pub record Routes (M n : ℕ) (first second way : ℕ → ℕ) : Type 0 where
  pub small : M ≤ max_elements
  pub few : n ≤ max_rows
  pub starts : (i : ℕ) → i < n → Element M (first i)
  pub ends : (i : ℕ) → i < n → Element M (second i)
  pub ways : (i : ℕ) → i < n → way i < max_rings

abbrev pub on_ring : ℕ → ℕ → (first second way : ℕ → ℕ) → Table
on_ring M n first second way = record {
  elements = M;
  rows = n;
  rings = max_rings;
  cost = λ i. 0;
  period = λ i. 0;
  first = first;
  second = second;
  way = way;
}

abbrev pub RoutesOf : Columns → ℕ → Type 0
RoutesOf c n = Routes c.elements n (at c.first) (at c.second) (at c.way)

pub record Routed (c : Columns) : Type 0 where
  pub routes : RoutesOf c c.rows
  pub one_way : OneWay c.rings c.rows (at c.way)

abbrev pub rings_of : Columns → ℕ → Table
rings_of c n = on_ring c.elements n (at c.first) (at c.second) (at c.way)

abbrev pub segments_of : Columns → ℕ → ℕ
segments_of c = λ i. row_segments c.elements (at c.way i) (at c.first i) (at c.second i)

unfoldable pub cut_of : (c q d : ℕ) → ℕ
cut_of c q d = cond (eqb d clockwise) c q

pub record Renumbered (M c q n : ℕ) (first second way : ℕ → ℕ) (r : Line) : Type 0 where
  pub starts : ByRow n (λ i. row_element M (way i) (cut_of c q (way i)) (first i)) r.first
  pub ends : ByRow n (λ i. row_end M (way i) (cut_of c q (way i)) (second i)) r.second
