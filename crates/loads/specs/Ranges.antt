-- Which of the listed overlap sets a row is in. A row's sets are consecutive, so the lowest and the highest of them say it.
--
--   lowest_set K ws i        the lowest of K sets that row i is in, or K where it is in none
--   highest_set K ws i       the highest, or 0 where it is in none
--   Ranged n K ws tail head the arrays hold the nodes where each of n rows starts, before its lowest set, and ends, after its highest
--   Marked w v xs ys        the array ys holds v for each row in the word w, and else what xs does
--
-- Only one pair of arrays fits (proofs/Ranges, `ranged_only`).
use Rattle.std.specs.Prelude.{◌≡◌, true, false, List, ℕ, suc, length}
use Rattle.numbers.specs.Finite.{lowest, highest}
use Rattle.numbers.specs.Word.{bit}
use Rattle.numbers.specs.Lists.{at}
use Rattle.rules.specs.Bounds.{max_rows}
use Rattle.table.specs.Columns.{ByRow}

abbrev pub lowest_set : ℕ → List ℕ → ℕ → ℕ
lowest_set K ws i = lowest K (λ k. bit (at ws k) i)

abbrev pub highest_set : ℕ → List ℕ → ℕ → ℕ
highest_set K ws i = highest K (λ k. bit (at ws k) i)

pub record Ranged (n K : ℕ) (ws tail head : List ℕ) : Type 0 where
  pub lowest : ByRow n (lowest_set K ws) tail
  pub highest : ByRow n (λ i. suc (highest_set K ws i)) head

pub record Marked (w v : ℕ) (xs ys : List ℕ) : Type 0 where
  pub size : length ys ≡ max_rows
  pub inside : (i : ℕ) → bit w i ≡ true → at ys i ≡ v
  pub outside : (i : ℕ) → bit w i ≡ false → at ys i ≡ at xs i
