-- What a reader says beside number and place, whatever its refusals are: the mark, the version, the elements and the rows that a reading
-- has, and where it is refused no mark and 0.
use Rattle.std.specs.Prelude.{ℕ, List, Result, Ok, Err}
use Rattle.rules.specs.Calls.{no_mark}
use Rattle.reader.specs.declared.Reading.{Reading}

abbrev pub mark_in : {E : Type 0} → Result Reading E → List ℕ
mark_in (Ok r) = r.mark
mark_in (Err _) = no_mark

abbrev pub version_in : {E : Type 0} → Result Reading E → ℕ
version_in (Ok r) = r.version
version_in (Err _) = 0

abbrev pub elements_in : {E : Type 0} → Result Reading E → ℕ
elements_in (Ok r) = r.table.elements
elements_in (Err _) = 0

abbrev pub rows_in : {E : Type 0} → Result Reading E → ℕ
rows_in (Ok r) = r.table.rows
rows_in (Err _) = 0
