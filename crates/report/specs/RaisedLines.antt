-- What stands in a lent slice after a call that raises rows and says so (#111).
--
--   Costs n old new     old and new costs of n rows, as a bus allows them
--   raised_lines n old new   a line for each of n rows whose cost grew
--   max_size            no report is longer
--   RaiseRendered       what `render` writes and returns
--
-- `was` and `now` are what the lent slice holds before and after. Only one answer of `render` fits (proofs/RaisedLines,
-- `raise_rendered_only`).
use Rattle.std.specs.Prelude.{cond, List, [], ◌∷◌, ℕ, ◌+◌, ◌*◌, ◌≤◌, ◌<◌, ltb}
use Rattle.numbers.specs.Lists.{each}
use Rattle.rules.specs.Bounds.{max_rows, max_slots}
use Rattle.rules.specs.Text.{Line, text}
use Rattle.rules.specs.Raising.{raise, RaisePrinted}
use Rattle.decimal.specs.Puts.{Puts, max_line}

pub record Costs (n : ℕ) (old new : ℕ → ℕ) : Type 0 where
  pub few : n ≤ max_rows
  pub was : (i : ℕ) → i < n → old i ≤ max_slots
  pub is : (i : ℕ) → i < n → new i ≤ max_slots

abbrev pub raised_lines : (n : ℕ) (old new : ℕ → ℕ) → List Line
raised_lines n old new = each n (λ i. cond (ltb (old i) (new i)) (raise i (old i) (new i) ∷ []) [])

-- the rows and the verdict
abbrev pub max_size : ℕ
max_size = max_line * (max_rows + 1)

-- The program's lines stand at the front of the slice, as far as there is room; `size` is how many bytes they are.
pub record RaiseRendered (f was now : List ℕ) (size : ℕ) : Type 0 where
  pub lines : List Line
  pub printed : RaisePrinted f lines
  pub puts : Puts (text lines) was 0 now size
  pub fits : size ≤ max_size
