-- What the list of overlap sets takes and gives.
--
--   OnLine n first second top         n rows on a line whose last element is top
--   SetWords n first second k words   the first k of the words are their overlap sets' list, and the others are 0
use Rattle.std.specs.Prelude.{◌≡◌, List, ℕ, ◌≤◌, ◌<◌, length, take}
use Rattle.numbers.specs.Lists.{at}
use Rattle.rules.specs.Bounds.{max_rows}
use Rattle.rules.specs.Line.{meet, SetList}
use Rattle.sets.specs.Walk.{line_size}

pub record OnLine (n : ℕ) (first second : ℕ → ℕ) (top : ℕ) : Type 0 where
  pub some : 0 < n
  pub few : n ≤ max_rows
  pub line : (i : ℕ) → i < n → first i < second i
  pub within : (i : ℕ) → i < n → second i ≤ top
  pub short : top < line_size

-- Only one count and one list of words fit (proofs/SetWords).
pub record SetWords (n : ℕ) (first second : ℕ → ℕ) (k : ℕ) (words : List ℕ) : Type 0 where
  pub size : length words ≡ max_rows
  pub few : k ≤ n
  pub sets : SetList n (meet first second) second (take k words)
  pub rest : (i : ℕ) → k ≤ i → at words i ≡ 0
