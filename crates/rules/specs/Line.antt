-- Document 01, "From ring to line", for each ring by itself (#112).
--
--   clear t d e              no row of ring d goes through element e
--   cut t d                  in the numbers of ring d the lowest element with none of its rows through it; M + 1 where there is none
--   HasCuts t                each ring has such an element
--   idle t d                 ring d has no rows
--   board_cut t d             the cut of ring d as the board's own number; 1 where the ring is idle, 0 where the board has no such ring
--   on_line t d e             the number, from the cut of ring d as 1, 2, and so on, of element e in that ring's numbers
--   ring_start t d            where the line of ring d begins: it follows the one before
--   line_top t                where the last line ends
--   line_first t i            row i's first end on the line
--   line_second t i           row i's second end on the line
--   meet f s i j             the line's rule: the first end of each is below the second end of the other
--   OverlapSet n o D         D is a largest possible set of rows that all overlap one another
--   Least g D e              e is the least of g over D
--   set_at ws k               set number k of the list ws
--   SetList n o s ws         ws are the words of the overlap sets, listed by ascending least second end
--   Sets t ws                ws is the table's list of overlap sets
--
-- A set of rows is a test D on row numbers; its word has bit i for row i. `OverlapSet` and `SetList` are over n rows and any test o whether
-- two rows overlap, so that they serve the ring and the line.
use Rattle.std.specs.Prelude.{◌≡◌, List, Bool, not, ◌&&◌, cond, ℕ, suc, ◌+◌, ◌*◌, ◌≤◌, ◌<◌, T, ltb, eqb, length}
use Rattle.numbers.specs.Finite.{any, lowest}
use Rattle.numbers.specs.Word.{bit}
use Rattle.numbers.specs.Lists.{at}
use Rattle.rules.specs.Bus.{Table, mirror, ring_first, ring_second, steps, through, overlap}

unfoldable pub clear : Table → (d e : ℕ) → Bool
clear t d e = not (any t.rows (λ i. eqb (t.way i) d && through t i e))

-- Of mirrored numbers the lowest is the board's highest.
unfoldable pub cut : Table → ℕ → ℕ
cut t d = suc (lowest t.elements (λ e. clear t d (mirror t.elements d (suc e))))

abbrev pub HasCuts : Table → Type 0
HasCuts t = (d : ℕ) → d < t.rings → cut t d ≤ t.elements

abbrev pub idle : Table → ℕ → Bool
idle t d = not (any t.rows (λ i. eqb (t.way i) d))

-- A ring with no rows prints cut 1.
unfoldable pub board_cut : Table → ℕ → ℕ
board_cut t d = cond (ltb d t.rings) (cond (idle t d) 1 (mirror t.elements d (cut t d))) 0

unfoldable pub on_line : Table → (d e : ℕ) → ℕ
on_line t d e = suc (steps t.elements (cut t d) e)

-- So the lines of both rings stand on one, where rows of different rings never overlap and sets are numbered through, clockwise first.
abbrev pub ring_start : Table → ℕ → ℕ
ring_start t d = d * (t.elements + 1)

abbrev pub line_top : Table → ℕ
line_top t = ring_start t t.rings

unfoldable pub line_first : Table → ℕ → ℕ
line_first t i = ring_start t (t.way i) + on_line t (t.way i) (ring_first t i)

-- A row that ends at the cut has second end M + 1.
unfoldable pub line_second : Table → ℕ → ℕ
line_second t i =
    ring_start t (t.way i)
    + cond (eqb (ring_second t i) (cut t (t.way i))) (t.elements + 1) (on_line t (t.way i) (ring_second t i))

unfoldable pub meet : (first second : ℕ → ℕ) → ℕ → ℕ → Bool
meet first second i j = ltb (first i) (second j) && ltb (first j) (second i)

-- A largest possible set of rows that all overlap one another: no row can be added.
pub record OverlapSet (n : ℕ) (o : ℕ → ℕ → Bool) (D : ℕ → Bool) : Type 0 where
  pub rows : (i : ℕ) → T (D i) → i < n
  pub pairs : (i j : ℕ) → T (D i) → T (D j) → T (o i j)
  pub full : (k : ℕ) → k < n → ((i : ℕ) → T (D i) → T (o k i)) → T (D k)

pub record Least (g : ℕ → ℕ) (D : ℕ → Bool) (e : ℕ) : Type 0 where
  pub reached : (j : ℕ) × T (D j) × (g j ≡ e)
  pub under : (i : ℕ) → T (D i) → e ≤ g i

abbrev pub set_at : List ℕ → ℕ → ℕ → Bool
set_at ws k = bit (at ws k)

-- Each is an overlap set, all of them are there, and their least second ends ascend.
pub record SetList (n : ℕ) (o : ℕ → ℕ → Bool) (second : ℕ → ℕ) (ws : List ℕ) : Type 0 where
  pub each : (k : ℕ) → k < length ws → OverlapSet n o (set_at ws k)
  pub all : (w : ℕ) → OverlapSet n o (bit w) → (k : ℕ) × (k < length ws) × (at ws k ≡ w)
  pub order : (k l d e : ℕ) → k < l → l < length ws
      → Least second (set_at ws k) d → Least second (set_at ws l) e → d < e

abbrev pub Sets : Table → List ℕ → Type 0
Sets t ws = SetList t.rows (overlap t) (line_second t) ws
