-- What stands at an element of the line. Rows are the numbers below n; row i runs from element first i to element second i.
--
--   line_size                     how many places an array by element has: the elements of two lines, 1 to 2 × (M + 1), and one not used
--   across n first second e i     row i uses the line's segment that ends at element e
--   ends_at n ends e               one of the rows' ends is e
--   RowsAt n ends words           for each element the word of the rows that have this end there
use Rattle.std.specs.Prelude.{◌≡◌, Bool, ◌&&◌, List, ℕ, ◌+◌, ◌*◌, ◌<◌, ltb, leb, eqb, length}
use Rattle.numbers.specs.Finite.{any}
use Rattle.numbers.specs.Word.{bit}
use Rattle.numbers.specs.Lists.{at}
use Rattle.rules.specs.Bounds.{max_elements, max_rings}

abbrev pub line_size : ℕ
line_size = max_rings * (max_elements + 1) + 1

unfoldable pub across : ℕ → (first second : ℕ → ℕ) → ℕ → ℕ → Bool
across n first second e i = ltb i n && (ltb (first i) e && leb e (second i))

abbrev pub ends_at : ℕ → (ends : ℕ → ℕ) → ℕ → Bool
ends_at n ends e = any n (λ j. eqb (ends j) e)

pub record RowsAt (n : ℕ) (ends : ℕ → ℕ) (words : List ℕ) : Type 0 where
  pub size : length words ≡ line_size
  pub row : (e i : ℕ) → e < line_size → bit (at words e) i ≡ (ltb i n && eqb (ends i) e)
