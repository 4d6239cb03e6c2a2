-- Document 01, "The bus and its tables", with the two rings of #112.
--
--   Table              M elements round one ring or two, and rows numbered from 0
--   Labelled           a table and a label for each row (#107)
--   unlabelled t       the table t, every label 0
--   clockwise, counterclockwise   the ways that a board's two rings run, by which the rings are numbered too
--   mirror M d e       element e in the numbers of ring d: the board's own, or mirrored where it runs counterclockwise
--   mirror_segment M d s    segment s likewise
--   ring_first t i, ring_second t i   row i's ends in the numbers of its ring
--   steps M a b        how many segments lie from element a clockwise to element b
--   route_uses M a b s      the route from element a clockwise to element b uses segment s
--   uses t i s         row i's route uses segment s
--   route_through M a b e   that route goes through element e
--   through t i e      row i goes through element e
--   shares t i j s     rows i and j share segment s: both run on one ring, and both routes use it
--   overlap t i j      rows i and j overlap: their routes share a segment
--   shared t i j       the word of the segments that they share, bit s − 1 for segment s (#102)
--   common t D         the word of the segments that all rows of the set D use, likewise
--   pasted t i         an earlier row has row i's ends, period and direction (#104)
--
-- Elements and segments are numbered 1 to M; segment s joins element s to the next one, and segment M joins M to 1. The two rings of a
-- board join the same elements. Where nothing else is said, numbers are the board's own.
use Rattle.std.specs.Prelude.{Bool, not, ◌&&◌, ◌||◌, cond, ℕ, suc, ◌+◌, ◌-◌, ◌%◌, ltb, eqb}
use Rattle.numbers.specs.Finite.{any, every}
use Rattle.numbers.specs.Word.{word}

-- A row is one periodic transfer: cost in slots, period in slots, first and second element, and the way it runs. Its first job arrives at
-- slot 0, and each job's deadline is the next arrival: job j arrives at slot j × period and is due at slot (j + 1) × period.
-- A table has one ring, or two, one each way (#112); with one ring all rows run clockwise.
pub record Table : Type 0 where
  pub elements : ℕ
  pub rows : ℕ
  pub rings : ℕ
  pub cost : ℕ → ℕ
  pub period : ℕ → ℕ
  pub first : ℕ → ℕ
  pub second : ℕ → ℕ
  pub way : ℕ → ℕ

-- A row's label comes from the machine builder's wiring list. It stands beside the table, so whatever is said of a table alone knows of no
-- label: cut, sets, loads and plan.
pub record Labelled : Type 0 where
  pub table : Table
  pub label : ℕ → ℕ

abbrev pub unlabelled : Table → Labelled
unlabelled t = record { table = t; label = λ i. 0 }

abbrev pub clockwise : ℕ
clockwise = 0

abbrev pub counterclockwise : ℕ
counterclockwise = 1

-- Counterclockwise routes are those of the mirrored numbers, element n becoming M + 1 − n (#112).
unfoldable pub mirror : (M d e : ℕ) → ℕ
mirror M d e = cond (eqb d clockwise) e (M + 1 - e)

-- Then segment s, which joins element s to the next one, becomes M − s, and segment M stays M.
unfoldable pub mirror_segment : (M d s : ℕ) → ℕ
mirror_segment M d s = cond (eqb d clockwise) s (M - s % M)

-- A row's ends in the numbers of its ring.
abbrev pub ring_first : Table → ℕ → ℕ
ring_first t i = mirror t.elements (t.way i) (t.first i)

abbrev pub ring_second : Table → ℕ → ℕ
ring_second t i = mirror t.elements (t.way i) (t.second i)

unfoldable pub steps : ℕ → ℕ → ℕ → ℕ
steps M a b = (b + M - a) % M

-- The route runs clockwise from first to second and uses every segment on the way: those that begin at an element before its end.
abbrev pub route_uses : (M a b s : ℕ) → Bool
route_uses M a b s = ltb (steps M a s) (steps M a b)

unfoldable pub uses : Table → ℕ → ℕ → Bool
uses t i s = route_uses t.elements (ring_first t i) (ring_second t i) (mirror_segment t.elements (t.way i) s)

-- The element lies on the route and is neither end.
abbrev pub route_through : (M a b e : ℕ) → Bool
route_through M a b e = ltb 0 (steps M a e) && route_uses M a b e

unfoldable pub through : Table → ℕ → ℕ → Bool
through t i e = route_through t.elements (ring_first t i) (ring_second t i) (mirror t.elements (t.way i) e)

-- Rows of different rings never overlap (#112).
abbrev pub shares : Table → (i j s : ℕ) → Bool
shares t i j s = eqb (t.way i) (t.way j) && (uses t i s && uses t j s)

unfoldable pub overlap : Table → ℕ → ℕ → Bool
overlap t i j = any t.elements (λ s. shares t i j (suc s))

-- The segments are the ring's own, so no cut is needed. The word is 0 exactly if the rows don't overlap (specs/Shared).
unfoldable pub shared : Table → ℕ → ℕ → ℕ
shared t i j = word t.elements (λ s. shares t i j (suc s))

unfoldable pub common : Table → (ℕ → Bool) → ℕ
common t D = word t.elements (λ s. every t.rows (λ i. not (D i) || uses t i (suc s)))

-- An earlier row has its first end, its second end, its period and its direction, whatever the costs.
unfoldable pub pasted : Table → ℕ → Bool
pasted t i =
    any i
    (λ j. eqb (t.first j) (t.first i) && eqb (t.second j) (t.second i) && eqb (t.period j) (t.period i)
    && eqb (t.way j) (t.way i))
