-- Document 02, #114: the program that prints the slot lines of both planners.
--
--   PlainPrinted f ls     it prints the lines ls for the table file f
--   max_size              no report is longer
--   PlainRendered         what `render_plain` writes and returns
--
-- `was` and `now` are what the lent slice holds before and after. Only one answer of `render_plain` fits
-- (proofs/Plain, `plain_rendered_only`).
use Rattle.std.specs.Prelude.{◌≢◌, List, [], ◌∷◌, ◌++◌, ℕ, ◌*◌, ◌≤◌}
use Rattle.rules.specs.Bounds.{max_slots}
use Rattle.rules.specs.TableFile.{file_table}
use Rattle.rules.specs.Planner.{WholePlan}
use Rattle.rules.specs.Refusals.{Answers, verdict_checks}
use Rattle.rules.specs.Text.{Line, text}
use Rattle.rules.specs.Program.{verdict, slot_lines}
use Rattle.decimal.specs.Puts.{Puts, max_line}

-- The plain planner's slot lines, then the other's; on a refusal the verdict line only.
pub data PlainPrinted (f : List ℕ) : List Line → Type 0 where
  refused : (number place : ℕ) → Answers (verdict_checks f) number place → number ≢ 0 → PlainPrinted f (verdict number place ∷ [])
  admitted : (plain plan : List ℕ) → Answers (verdict_checks f) 0 0 → WholePlan (file_table f) plain → WholePlan (file_table f) plan
      → PlainPrinted f (slot_lines plain ++ slot_lines plan)

-- the slots of both plans
abbrev pub max_size : ℕ
max_size = max_line * (2 * max_slots)

-- The program's lines stand at the front of the slice, as far as there is room; `size` is how many bytes they are.
pub record PlainRendered (f was now : List ℕ) (size : ℕ) : Type 0 where
  pub lines : List Line
  pub printed : PlainPrinted f lines
  pub puts : Puts (text lines) was 0 now size
  pub fits : size ≤ max_size
