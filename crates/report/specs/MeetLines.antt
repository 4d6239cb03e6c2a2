-- What stands in a lent slice after a call that writes where rows meet.
--
--   numbered w x       the line of the word w and one number
--   member_lines f n w  the line f k for each bit k of w that is set, of the first n
--   max_size           no report is longer
--   Rendered P         lines that P allows stand at the front of the slice, as far as there is room; `size` is how many bytes they are
--
-- `was` and `now` are what the lent slice holds before and after. Only one answer fits (proofs/MeetOnly).
use Rattle.std.specs.Prelude.{cond, List, [], ◌∷◌, ℕ, ◌+◌, ◌*◌, ◌≤◌}
use Rattle.numbers.specs.Lists.{each}
use Rattle.numbers.specs.Word.{bit}
use Rattle.rules.specs.Bounds.{max_elements, max_rows}
use Rattle.rules.specs.Text.{Line, text}
use Rattle.decimal.specs.Puts.{line_of, max_line, Puts}

abbrev pub numbered : List ℕ → ℕ → Line
numbered w x = line_of w (x ∷ [])

abbrev pub member_lines : (ℕ → Line) → (n w : ℕ) → List Line
member_lines f n w = each n (λ k. cond (bit w k) (f k ∷ []) [])

-- the answer, the rows and the segments
abbrev pub max_size : ℕ
max_size = max_line * (1 + max_rows + max_elements)

pub record Rendered (P : List Line → Type 0) (was now : List ℕ) (size : ℕ) : Type 0 where
  pub lines : List Line
  pub printed : P lines
  pub puts : Puts (text lines) was 0 now size
  pub fits : size ≤ max_size
