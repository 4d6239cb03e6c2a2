-- #109, the live table: an operator adds and removes one row at a time between reels.
--
--   Live               M, 64 places for rows with their labels, a denominator, and a load sum for each segment of the ring
--   Entry              a row to be put in a place, with its label
--   vacant             what a free place holds: zeros
--   places l           the table of all 64 places, the free ones among them
--   held l i           place i holds a row
--   free l             the lowest free place, 64 where there is none
--   common_of p         the least common multiple of those of the 64 periods p that are above 0, 1 where none is
--   common l           that of the periods present
--   sum_over d l s      segment s + 1's load from the rows present, in units of 1 / d
--   Seated l           its M and its rows keep the rules
--   InOrder l          so do its denominator and its sums: any other live table is off
--   empty M, nothing   a new live table, and one of nothing but zeros
--   put l k e          place k holds e, and denominator and sums are worked out afresh
--   repeated l e       a row present has e's ends and period
--   place_of h j        the place of row j of the rows present, of all places that have h: j of those before it have h too
--   present l          the table of the rows present, in the order of their places, with their labels
--   new_checks, add_checks, remove_checks, rows_file_checks   the orders of checking
--   Made, Added, Removed, Filed                               what is answered
--   Reached l          a live table to which new, additions and removals lead, refused ones among them
use Rattle.std.specs.Prelude.{◌≡◌, ◌⊎◌, Bool, not, ◌&&◌, cond, List, [], ◌∷◌, ◌++◌, ℕ, suc, ◌*◌, ◌/◌, ◌≤◌, ◌<◌, max, T, ltb, eqb, length}
use Rattle.numbers.specs.Finite.{any, every, lowest, only, sum_in, count}
use Rattle.numbers.specs.Divisors.{lcm}
use Rattle.rules.specs.Bounds.{max_elements, max_rows, max_slots}
use Rattle.rules.specs.Bus.{Table, Labelled, clockwise, uses, pasted}
use Rattle.rules.specs.TableFile.{table_mark, numbers, bytes}
use Rattle.rules.specs.Refusals.{Check, refuse, Answers, wrong_elements, faults, writer_checks}
use Rattle.rules.specs.Calls.{Call, lent}

-- sum s is that of segment s + 1
pub record Live : Type 0 where
  pub elements : ℕ
  pub cost : ℕ → ℕ
  pub period : ℕ → ℕ
  pub first : ℕ → ℕ
  pub second : ℕ → ℕ
  pub label : ℕ → ℕ
  pub denominator : ℕ
  pub sum : ℕ → ℕ

pub record Entry : Type 0 where
  pub cost : ℕ
  pub period : ℕ
  pub first : ℕ
  pub second : ℕ
  pub label : ℕ

abbrev pub vacant : Entry
vacant = record { cost = 0; period = 0; first = 0; second = 0; label = 0 }

-- A live table has one ring.
abbrev pub places : Live → Table
places l = record {
  elements = l.elements;
  rows = max_rows;
  rings = 1;
  cost = l.cost;
  period = l.period;
  first = l.first;
  second = l.second;
  way = λ i. clockwise;
}

-- A row has a period of 1 or more, and free places hold zeros.
abbrev pub held : Live → ℕ → Bool
held l i = ltb 0 (l.period i)

abbrev pub free : Live → ℕ
free l = lowest max_rows (λ i. not (held l i))

-- A free place counts as a period of 1.
unfoldable pub common_of : (ℕ → ℕ) → ℕ
common_of p = lcm max_rows (λ i. max 1 (p i))

abbrev pub common : Live → ℕ
common l = common_of l.period

-- There are no segments past segment M.
unfoldable pub sum_over : ℕ → Live → ℕ → ℕ
sum_over d l s =
    only (ltb s l.elements) (sum_in max_rows (λ i. held l i && uses (places l) i (suc s)) (λ i. d / l.period i * l.cost i))

-- ---- the rules that a live table keeps

pub record Blank (l : Live) (i : ℕ) : Type 0 where
  pub cost : l.cost i ≡ 0
  pub period : l.period i ≡ 0
  pub first : l.first i ≡ 0
  pub second : l.second i ≡ 0
  pub label : l.label i ≡ 0

pub record Seated (l : Live) : Type 0 where
  pub low : 2 ≤ l.elements
  pub high : l.elements ≤ max_elements
  -- each place is free, or holds a row that passes 7 to 9
  pub place : (i : ℕ) → i < max_rows → Blank l i ⊎ Answers (faults (places l) i) 0 0
  -- no row has the ends and the period of another
  pub single : (i : ℕ) → i < max_rows → T (held l i) → T (pasted (places l) i) → ⊥

-- Whether calls lead to it is not asked.
pub record InOrder (l : Live) : Type 0 where
  pub rows : Seated l
  pub denominator : l.denominator ≡ common l
  pub short : l.denominator ≤ max_slots
  pub sums : (s : ℕ) → s < max_elements → l.sum s ≡ sum_over (common l) l s

-- ---- how it changes

abbrev pub empty : ℕ → Live
empty M = record {
  elements = M;
  cost = λ i. 0;
  period = λ i. 0;
  first = λ i. 0;
  second = λ i. 0;
  label = λ i. 0;
  denominator = 1;
  sum = λ s. 0;
}

abbrev pub nothing : Live
nothing = record {
  elements = 0;
  cost = λ i. 0;
  period = λ i. 0;
  first = λ i. 0;
  second = λ i. 0;
  label = λ i. 0;
  denominator = 0;
  sum = λ s. 0;
}

-- g, but x at k
abbrev pub but : (ℕ → ℕ) → (k x : ℕ) → ℕ → ℕ
but g k x i = cond (eqb i k) x (g i)

-- Place k holds e; denominator and sums are as they were.
abbrev pub placed : Live → ℕ → Entry → Live
placed l k e = record {
  elements = l.elements;
  cost = but l.cost k e.cost;
  period = but l.period k e.period;
  first = but l.first k e.first;
  second = but l.second k e.second;
  label = but l.label k e.label;
  denominator = l.denominator;
  sum = l.sum;
}

abbrev pub put : Live → ℕ → Entry → Live
put l k e =
    let m : Live = placed l k e in
    record {
      elements = m.elements;
      cost = m.cost;
      period = m.period;
      first = m.first;
      second = m.second;
      label = m.label;
      denominator = common m;
      sum = sum_over (common m) m;
    }

-- ---- the rows present, as a table

unfoldable pub place_of : (ℕ → Bool) → ℕ → ℕ
place_of h j = lowest max_rows (λ i. h i && eqb (count i h) j)

abbrev pub present : Live → Labelled
present l = record {
  table = record {
    elements = l.elements;
    rows = count max_rows (held l);
    rings = 1;
    cost = λ j. l.cost (place_of (held l) j);
    period = λ j. l.period (place_of (held l) j);
    first = λ j. l.first (place_of (held l) j);
    second = λ j. l.second (place_of (held l) j);
    way = λ j. clockwise;
  };
  label = λ j. l.label (place_of (held l) j);
}

-- ---- the refusals, in their orders; none of the live table's own has a place

-- the live table handed in breaks the rules
abbrev pub off_live : Live → Check
off_live l = refuse 15 0 (¬ InOrder l)

-- the table of e alone
abbrev pub alone : Live → Entry → Table
alone l e = record {
  elements = l.elements;
  rows = 1;
  rings = 1;
  cost = λ i. e.cost;
  period = λ i. e.period;
  first = λ i. e.first;
  second = λ i. e.second;
  way = λ i. clockwise;
}

unfoldable pub repeated : Live → Entry → Bool
repeated l e = any max_rows (λ i. eqb (l.first i) e.first && eqb (l.second i) e.second && eqb (l.period i) e.period)

abbrev pub repeated_row : Live → Entry → Check
repeated_row l e = refuse 18 0 (T (repeated l e))

-- all 64 places hold rows
abbrev pub no_free_place : Live → Check
no_free_place l = refuse 24 0 (T (every max_rows (held l)))

-- the hyperperiod would be above 4096 with the new period
abbrev pub long_with : Live → Entry → Check
long_with l e = refuse 11 0 (max_slots < common (placed l (free l) e))

-- the place is above 63, or holds no row
abbrev pub no_row_there : Live → ℕ → Check
no_row_there l k = refuse 25 0 ((max_rows ≤ k) ⊎ (T (held l k) → ⊥))

abbrev pub new_checks : ℕ → List Check
new_checks M = wrong_elements (places (empty M)) ∷ []

-- 15, 7 to 9, 18, 24, 11
abbrev pub add_checks : Live → Entry → List Check
add_checks l e = off_live l ∷ faults (alone l e) 0 ++ (repeated_row l e ∷ no_free_place l ∷ long_with l e ∷ [])

abbrev pub remove_checks : Live → ℕ → List Check
remove_checks l k = off_live l ∷ no_row_there l k ∷ []

-- 15, then the writer's of the rows present
abbrev pub rows_file_checks : (version : ℕ) → Live → (room : ℕ) → List Check
rows_file_checks version l room =
    off_live l ∷ writer_checks table_mark version (present l).table.elements (present l).table.rows (numbers (present l)) room

-- ---- the calls

-- Made from M.
abbrev pub Made : (M : ℕ) (m : Live) (number place : ℕ) → Type 0
Made M m number place = Call (new_checks M) number place (m ≡ empty M) (m ≡ nothing)

-- Returns the place taken: the lowest free one.
abbrev pub Added : (l : Live) (e : Entry) (m : Live) (number place taken : ℕ) → Type 0
Added l e m number place taken =
    Call (add_checks l e) number place ((taken ≡ free l) × (m ≡ put l (free l) e)) ((taken ≡ 0) × (m ≡ l))

abbrev pub Removed : (l : Live) (k : ℕ) (m : Live) (number place : ℕ) → Type 0
Removed l k m number place = Call (remove_checks l k) number place (m ≡ put l k vacant) (m ≡ l)

-- The rows present are written as a table file with mark RBT, in the version that is told. The live table stays as it is.
abbrev pub Filed : (version : ℕ) (l : Live) (was now : List ℕ) (number place : ℕ) → Type 0
Filed version l was now number place =
    Call (rows_file_checks version l (length was)) number place (now ≡ lent (bytes version (present l)) was) (now ≡ was)

-- Calls may be refused: the live table then stays as it was.
pub data Reached : Live → Type 0 where
  made : {M : ℕ} {m : Live} → Made M m 0 0 → Reached m
  added : {l m : Live} (e : Entry) (number place taken : ℕ) → Reached l → Added l e m number place taken → Reached m
  removed : {l m : Live} (k number place : ℕ) → Reached l → Removed l k m number place → Reached m
