-- #113: a relay for tables without a cut.
--
--   Row                a row's numbers
--   row_of t i          those of row i
--   no_row              what stands past the last row
--   of_rows M d xs      the table of M elements and d rings whose rows are xs
--   to_relay r x        the first half of row x: from its first end to the relay r
--   from_relay r x      its second half: from the relay to its second end
--   becomes r b x      what row x becomes, where b says whether it goes through the relay: both halves, or itself
--   split_row t r i     what row i becomes
--   split_rows t r n    what the first n rows become
--   split t r          the table that t becomes with relay r
--   stands_at t r i     where row i, or its first half, stands in that table
use Rattle.std.specs.Prelude.{Bool, cond, List, [], ◌∷◌, ℕ, length, get_or}
use Rattle.numbers.specs.Lists.{each}
use Rattle.rules.specs.Bus.{Table, through}

pub record Row : Type 0 where
  pub cost : ℕ
  pub period : ℕ
  pub first : ℕ
  pub second : ℕ
  pub way : ℕ

abbrev pub row_of : Table → ℕ → Row
row_of t i = record { cost = t.cost i; period = t.period i; first = t.first i; second = t.second i; way = t.way i }

abbrev pub no_row : Row
no_row = record { cost = 0; period = 0; first = 0; second = 0; way = 0 }

abbrev pub of_rows : (M d : ℕ) → List Row → Table
of_rows M d xs = record {
  elements = M;
  rows = length xs;
  rings = d;
  cost = λ k. (get_or xs k no_row).cost;
  period = λ k. (get_or xs k no_row).period;
  first = λ k. (get_or xs k no_row).first;
  second = λ k. (get_or xs k no_row).second;
  way = λ k. (get_or xs k no_row).way;
}

-- Both halves have the cost and the period of the row, and run its way.
abbrev pub to_relay : ℕ → Row → Row
to_relay r x = record { cost = x.cost; period = x.period; first = x.first; second = r; way = x.way }

abbrev pub from_relay : ℕ → Row → Row
from_relay r x = record { cost = x.cost; period = x.period; first = r; second = x.second; way = x.way }

abbrev pub becomes : ℕ → Bool → Row → List Row
becomes r goes x = cond goes (to_relay r x ∷ from_relay r x ∷ []) (x ∷ [])

-- A row that has the relay as an end doesn't go through it.
unfoldable pub split_row : Table → (r i : ℕ) → List Row
split_row t r i = becomes r (through t i r) (row_of t i)

-- The split rows stand where the original stood.
unfoldable pub split_rows : Table → (r n : ℕ) → List Row
split_rows t r n = each n (split_row t r)

abbrev pub split : Table → ℕ → Table
split t r = of_rows t.elements t.rings (split_rows t r t.rows)

-- The second half stands after the first.
abbrev pub stands_at : Table → (r i : ℕ) → ℕ
stands_at t r i = length (split_rows t r i)
