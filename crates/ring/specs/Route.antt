-- Elements of a ring of M, and their numbers on the line that begins at a cut. Document 01 says these of a table's rows; here they are said
-- of any elements, so that they serve each ring and each way to divide a row. Elements are in a ring's own numbers, where each runs
-- clockwise; `row_segments`, `row_element` and `row_end` take the board's and the direction d (#112).
--
--   Element M e            e is one of the elements 1 to M; segments have the same numbers
--   Shows M w p            word w shows the elements that have p: element e by bit e, or by bit M + e
--   segments M a b         the word of the segments that the route from a to b uses, bit s − 1 for segment s (#102)
--   line_element M c e      element e's number on the line, clockwise from the cut c as 1, 2, and so on
--   line_end M c e          the same for a second end: M + 1 at the cut
--   row_segments M d a b    the word of the board's segments that a row from a to b uses
--   row_element M d c e     where a row of ring d starts, whose first end is e, on the line of both rings
--   row_end M d c e         where it ends, whose second end is e
use Rattle.std.specs.Prelude.{◌≡◌, Bool, ◌||◌, cond, ℕ, suc, ◌+◌, ◌*◌, ◌≤◌, eqb}
use Rattle.numbers.specs.Word.{bit, word}
use Rattle.rules.specs.Bus.{mirror, mirror_segment, steps, route_uses}

pub record Element (M e : ℕ) : Type 0 where
  pub low : 1 ≤ e
  pub high : e ≤ M

pub record Shows (M w : ℕ) (p : ℕ → Bool) : Type 0 where
  pub element : (e : ℕ) → Element M e → (bit w e || bit w (M + e)) ≡ p e

unfoldable pub segments : (M a b : ℕ) → ℕ
segments M a b = word M (λ s. route_uses M a b (suc s))

unfoldable pub line_element : ℕ → ℕ → ℕ → ℕ
line_element M c e = suc (steps M c e)

unfoldable pub line_end : ℕ → ℕ → ℕ → ℕ
line_end M c e = cond (eqb e c) (M + 1) (line_element M c e)

unfoldable pub row_segments : (M d a b : ℕ) → ℕ
row_segments M d a b = word M (λ s. route_uses M (mirror M d a) (mirror M d b) (mirror_segment M d (suc s)))

unfoldable pub row_element : (M d c e : ℕ) → ℕ
row_element M d c e = d * (M + 1) + line_element M c (mirror M d e)

unfoldable pub row_end : (M d c e : ℕ) → ℕ
row_end M d c e = d * (M + 1) + line_end M c (mirror M d e)
