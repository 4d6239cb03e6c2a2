-- The loads of rows and sets as the code weighs them: whole numbers of 1 / h, from the rows' rates in an array.
--
--   Times n cost period  costs and periods of n rows, as a bus allows them
--   Rates xs n           each of n rows has a rate, and none is above 4096
--   weight n xs w        the load of the set whose word is w, from the rates xs of n rows
--   next_lowest a n b     the lowest number below n + 1 that passes a test, where a is the one below n (or n), and b the test of n
--   SumsAt n ends xs ys  for each element of the line the sum of xs over the n rows that have this end there
--   Weighed n xs k ws e h l over largest
--                        what one pass over k sets finds: the lowest set over its bound (k where none is), and the largest load
use Rattle.std.specs.Prelude.{◌≡◌, Bool, not, ◌&&◌, cond, List, ℕ, ◌+◌, ◌*◌, ◌≤◌, ◌<◌, eqb, length}
use Rattle.numbers.specs.Finite.{lowest, sum_in}
use Rattle.numbers.specs.Finite as finite
use Rattle.numbers.specs.Word.{bit}
use Rattle.numbers.specs.Lists.{at}
use Rattle.rules.specs.Bounds.{max_rows, max_slots}
use Rattle.rules.specs.Loads.{past}
use Rattle.sets.specs.Walk.{line_size}

pub record Times (n : ℕ) (cost period : ℕ → ℕ) : Type 0 where
  pub few : n ≤ max_rows
  pub period_low : (i : ℕ) → i < n → 1 ≤ period i
  pub period_high : (i : ℕ) → i < n → period i ≤ max_slots
  pub cost_high : (i : ℕ) → i < n → cost i ≤ period i

pub record Rates (xs : List ℕ) (n : ℕ) : Type 0 where
  pub few : n ≤ max_rows
  pub some : (i : ℕ) → i < n → 1 ≤ at xs i
  pub small : (i : ℕ) → i < n → at xs i ≤ max_slots

unfoldable pub weight : ℕ → List ℕ → ℕ → ℕ
weight n xs w = sum_in n (bit w) (at xs)

unfoldable pub next_lowest : ℕ → ℕ → Bool → ℕ
next_lowest a n b = cond (eqb a n && not b) (n + 1) a

pub record SumsAt (n : ℕ) (ends xs : ℕ → ℕ) (sums : List ℕ) : Type 0 where
  pub size : length sums ≡ line_size
  pub held : (e : ℕ) → e < line_size → at sums e ≡ sum_in n (λ j. eqb (ends j) e) xs

pub record Weighed (n : ℕ) (xs : List ℕ) (k : ℕ) (ws : List ℕ) (e : Bool) (h l over largest : ℕ) : Type 0 where
  pub over_is : over ≡ lowest k (λ j. past e h l (weight n xs (at ws j)))
  pub largest_is : largest ≡ finite.largest k (λ j. weight n xs (at ws j))
  pub small : largest ≤ max_rows * max_slots
