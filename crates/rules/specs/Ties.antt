-- #106: two overlap sets can't tie. The file holds statements only; `proofs/Ties.antt` proves `OneSetAnEnd`. That no table with a cut
-- has a tie follows where ring and line are joined (crate outline, `specs/Ties.antt`).
--
--   Tie t              two different overlap sets of the table have the same least second end
--   OneSetAnEnd     of any rows on a line: overlap sets with the same least second end have the same rows
use Rattle.std.specs.Prelude.{◌≡◌, ◌≢◌, Bool, ℕ}
use Rattle.numbers.specs.Word.{bit}
use Rattle.rules.specs.Bus.{Table, overlap}
use Rattle.rules.specs.Line.{line_second, meet, OverlapSet, Least}

pub record Tie (t : Table) : Type 0 where
  pub one : ℕ
  pub other : ℕ
  pub end : ℕ
  pub different : one ≢ other
  pub one_set : OverlapSet t.rows (overlap t) (bit one)
  pub other_set : OverlapSet t.rows (overlap t) (bit other)
  pub one_end : Least (line_second t) (bit one) end
  pub other_end : Least (line_second t) (bit other) end

abbrev pub OneSetAnEnd : Type 0
OneSetAnEnd = (n : ℕ) (first second : ℕ → ℕ) (D E : ℕ → Bool) (e : ℕ) → OverlapSet n (meet first second) D
    → OverlapSet n (meet first second) E → Least second D e → Least second E e → (i : ℕ) → D i ≡ E i
