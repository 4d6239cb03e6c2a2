-- The list of a line's sets, folded: set k of each of two rings in one word. The rows of the second ring start past a bound, its sets come
-- after those of the first, and no row is in sets of both.
--
--   upper_rows n bound first   the word of the rows that start past the bound
--   low_sets upper ws          how many of the sets ws come before the first with a row of the word `upper`
--   unfolded upper ws i k     the number in ws of the set that is row i's set k, on its own ring
--   FoldedSets n bound K first was F vs
--                             the first K of the words `was`, which are sets of n rows, are folded to the first of the words vs; F says how
--                             many these are and which rows are the second ring's
--
-- Only one F and one vs fit (proofs/Folding, `folded_only`).
use Rattle.std.specs.Prelude.{◌≡◌, not, List, ℕ, ◌+◌, ◌-◌, ◌*◌, ◌≤◌, ◌<◌, max, eqb, ltb, length, take}
use Rattle.std.specs.Int.Bits.{bit_and}
use Rattle.numbers.specs.Finite.{lowest}
use Rattle.numbers.specs.Lists.{at}
use Rattle.numbers.specs.Word.{bit, word}
use Rattle.rules.specs.Bounds.{max_rows}
use Rattle.loads.specs.Loads.{digit}
use Rattle.interval.specs.declared.fold.Folded.{Folded}

abbrev pub upper_rows : (n bound : ℕ) (first : ℕ → ℕ) → ℕ
upper_rows n bound first = word n (λ i. ltb bound (first i))

abbrev pub low_sets : ℕ → List ℕ → ℕ
low_sets upper ws = lowest (length ws) (λ k. not (eqb (bit_and (at ws k) upper) 0))

abbrev pub unfolded : ℕ → List ℕ → (i k : ℕ) → ℕ
unfolded upper ws i k = digit upper i * low_sets upper ws + k

pub record FoldedSets (n bound K : ℕ) (first : ℕ → ℕ) (was : List ℕ) (F : Folded) (vs : List ℕ) : Type 0 where
  pub upper : F.upper ≡ upper_rows n bound first
  pub sets : F.sets ≡ max (low_sets F.upper (take K was)) (length (take K was) - low_sets F.upper (take K was))
  pub size : length vs ≡ max_rows
  pub word : (k i : ℕ) → k < F.sets → bit (at vs k) i ≡ bit (at (take K was) (unfolded F.upper (take K was) i k)) i
  pub rest : (k : ℕ) → F.sets ≤ k → at vs k ≡ at was k
