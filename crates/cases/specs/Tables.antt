-- The table file of a case: its elements and its rows, put into bytes as they are, good or bad. A row is four numbers, or five on a board
-- of two rings, where the last is its direction; b says whether it is one.
--
--   row_numbers b       how many numbers a row is
--   row_bytes xs k      the six bytes of a row whose numbers stand at place k and after it
--   way_bytes b x       the direction x as it stands after them
--   rows_in b xs        how many rows the numbers are, after the elements: at most one more than a table may have
--   head_bytes b xs     the seven bytes before the rows
--   file_bytes b xs     the file
use Rattle.std.specs.Prelude.{Bool, cond, List, [], ◌∷◌, ◌++◌, ℕ, ◌+◌, ◌*◌, ◌/◌, ◌%◌, min, length}
use Rattle.numbers.specs.Lists.{at, each}
use Rattle.rules.specs.Bounds.{max_rows}

abbrev pub low : ℕ → ℕ
low x = x % 256

abbrev pub high : ℕ → ℕ
high x = x / 256 % 256

abbrev pub row_numbers : Bool → ℕ
row_numbers b = cond b 5 4

abbrev pub row_bytes : List ℕ → ℕ → List ℕ
row_bytes xs k =
    low (at xs k) ∷ high (at xs k) ∷ low (at xs (k + 1)) ∷ high (at xs (k + 1)) ∷ low (at xs (k + 2)) ∷ low (at xs (k + 3)) ∷ []

abbrev pub way_bytes : Bool → ℕ → List ℕ
way_bytes b x = cond b (low x ∷ []) []

abbrev pub row_at : Bool → List ℕ → ℕ → List ℕ
row_at b xs k = row_bytes xs k ++ way_bytes b (at xs (k + 4))

abbrev pub rows_in : Bool → List ℕ → ℕ
rows_in b xs = min (length xs / row_numbers b) (max_rows + 1)

-- "RBT" or "RB2", version 1, elements, rows
abbrev pub head_bytes : Bool → List ℕ → List ℕ
head_bytes b xs = 0x52 ∷ 0x42 ∷ cond b 0x32 0x54 ∷ 1 ∷ 0 ∷ low (at xs 0) ∷ low (rows_in b xs) ∷ []

abbrev pub file_bytes : Bool → List ℕ → List ℕ
file_bytes b xs = head_bytes b xs ++ each (rows_in b xs) (λ i. row_at b xs (1 + row_numbers b * i))
