-- Document 02, #114: an interval's slots with no last ends kept. What the inner functions of the plain fill give.
--
--   is_open f g i w          no row in a slot with the word w overlaps row i, of rows from first end f to second end g on the line
--   open_at f g i ws s       the same of slot s of the words ws
--   RowPlaced f g i x l was now
--                           row i has been given the earliest x of l slots that are open to it; `was` and `now` are the words
--   Cleared l was now       the first l words are 0
use Rattle.std.specs.Prelude.{◌≡◌, List, Bool, not, ◌&&◌, ◌||◌, ℕ, ◌<◌, ltb, eqb}
use Rattle.numbers.specs.Finite.{any, count}
use Rattle.numbers.specs.Lists.{at}
use Rattle.numbers.specs.Word.{bit}
use Rattle.rules.specs.Bounds.{max_rows}
use Rattle.rules.specs.Line.{meet}
use Rattle.placing.specs.Filled.{Kept}

abbrev pub is_open : (f g : ℕ → ℕ) → ℕ → ℕ → Bool
is_open f g i w = not (any max_rows (λ j. bit w j && meet f g j i))

abbrev pub open_at : (f g : ℕ → ℕ) → ℕ → List ℕ → ℕ → Bool
open_at f g i ws s = is_open f g i (at ws s)

pub record RowPlaced (f g : ℕ → ℕ) (i x l : ℕ) (was now : List ℕ) : Type 0 where
  pub had : (j s : ℕ) → s < l
      → bit (at now s) j ≡ (bit (at was s) j || (eqb j i && (open_at f g i was s && ltb (count s (open_at f g i was)) x)))
  pub kept : Kept l was now

pub record Cleared (l : ℕ) (was now : List ℕ) : Type 0 where
  pub none : (s : ℕ) → s < l → at now s ≡ 0
  pub kept : Kept l was now
