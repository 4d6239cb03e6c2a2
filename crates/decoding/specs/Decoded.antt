-- What is decoded of a file.
--
--   StandsAt f p d r   r has the numbers that stand at byte p of file f, direction d and label 0
--   DecodingTo t i c   the columns c hold the first i rows of t, but for their directions, and 0 in every other place
--   SameBeside c d     beside those columns, c and d are the same
--   Empty c            columns of nothing but 0, whatever is counted beside them
--   DecodesInto cs t a c
--                      a answers the checks cs; where none of them applies, c holds table t, and else it counts no elements, rows or rings:
--                      only one a does, and then only one c that holds a table (proofs/Decoding)
--   Decodes cs t r     r answers the checks cs, and holds table t and its labels where none of them applies: only one r does
--                      (proofs/Decoding)
use Rattle.std.specs.Prelude.{◌≡◌, List, ℕ, ◌+◌, replicate, Result, IfOk, IfErr}
use Rattle.numbers.specs.Lists.{at}
use Rattle.rules.specs.Bounds.{max_rows}
use Rattle.rules.specs.Bus.{Table, Labelled}
use Rattle.rules.specs.TableFile.{read16}
use Rattle.rules.specs.Refusals.{Check, Answers}
use Rattle.table.specs.Columns.{ByRow, Holds, HoldsLabels}
use Rattle.table.specs.Refusal.{number, place}
use Rattle.table.specs.declared.Row.{Row}
use Rattle.table.specs.declared.columns.Columns.{Columns}
use Rattle.table.specs.declared.refusals.Refusal.{Refusal}
use Rattle.decoding.specs.declared.Decoded.{Decoded}

pub record StandsAt (f : List ℕ) (p d : ℕ) (r : Row) : Type 0 where
  pub cost : r.cost ≡ read16 f p
  pub period : r.period ≡ read16 f (p + 2)
  pub first : r.first ≡ at f (p + 4)
  pub second : r.second ≡ at f (p + 5)
  pub way : r.way ≡ d
  pub label : r.label ≡ 0

pub record DecodingTo (t : Table) (i : ℕ) (c : Columns) : Type 0 where
  pub costs : ByRow i t.cost c.cost
  pub periods : ByRow i t.period c.period
  pub firsts : ByRow i t.first c.first
  pub seconds : ByRow i t.second c.second

pub record SameBeside (c d : Columns) : Type 0 where
  pub elements : d.elements ≡ c.elements
  pub rows : d.rows ≡ c.rows
  pub rings : d.rings ≡ c.rings
  pub ways : d.way ≡ c.way

pub record Empty (c : Columns) : Type 0 where
  pub costs : c.cost ≡ replicate max_rows 0
  pub periods : c.period ≡ replicate max_rows 0
  pub firsts : c.first ≡ replicate max_rows 0
  pub seconds : c.second ≡ replicate max_rows 0
  pub ways : c.way ≡ replicate max_rows 0

pub record DecodesInto (cs : List Check) (t : Table) (a : Result Unit Refusal) (c : Columns) : Type 0 where
  pub answers : Answers cs (number a) (place a)
  pub passed : IfOk a (λ _. Holds t c)
  pub refused : IfErr a (λ _. (c.elements ≡ 0) × (c.rows ≡ 0) × (c.rings ≡ 0))

pub record Decodes (cs : List Check) (t : Labelled) (r : Result Decoded Refusal) : Type 0 where
  pub answers : Answers cs (number r) (place r)
  pub passed : IfOk r (λ d. Holds t.table d.columns)
  pub labelled : IfOk r (λ d. HoldsLabels t.label d.labels)
