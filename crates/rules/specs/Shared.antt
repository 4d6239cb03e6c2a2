-- #102: which segments two rows share. The file holds statements only; proofs/Shared proves them of any table.
--
--   ShowsSegments     bit s − 1 of the word is set exactly if both rows, on one ring, use segment s, one of 1 to M
--   ZeroIfApart      the word is 0 exactly if the rows don't overlap
use Rattle.std.specs.Prelude.{◌≡◌, ◌↔◌, false, ◌&&◌, ℕ, suc, ltb}
use Rattle.numbers.specs.Word.{bit}
use Rattle.rules.specs.Bus.{Table, shares, overlap, shared}

abbrev pub ShowsSegments : Type 0
ShowsSegments = (t : Table) (i j s : ℕ) → bit (shared t i j) s ≡ (ltb s t.elements && shares t i j (suc s))

abbrev pub ZeroIfApart : Type 0
ZeroIfApart = (t : Table) (i j : ℕ) → (shared t i j ≡ 0) ↔ (overlap t i j ≡ false)
