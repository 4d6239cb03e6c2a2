-- What the reader of the case programs finds in a text.
--
--   FoundAt text from byte r    r is the first place at `from` or after it where the byte stands; the text's end where there is none
--   is_digit b                 the byte is one of '0', .., '9'
--   grown x b                 the number x with one digit more, 0 where the byte is none; no more than 64 bits hold
--   ended e x                 the number x, where e says that it has ended
--   ended_number o            the number that has ended, if o has one
--   numbers_from o x bs        the numbers in bs, where a number that begins with x is open before it, if o says so
--   numbers_in bs              the numbers in a text: whatever is no digit stands between them
--
-- Only one place fits `FoundAt` (proofs/Reading, `found_only`).
use Rattle.std.specs.Prelude.{◌≡◌, ◌≢◌, List, [], ◌∷◌, ◌++◌, Option}
use Rattle.std.specs.Prelude.{Bool, false, not, ◌&&◌, cond, ℕ, ◌+◌, ◌-◌, ◌*◌, ◌≤◌, ◌<◌, min, leb, length}
use Rattle.std.specs.Option.{is_some, unwrap_or}
use Rattle.numbers.specs.Lists.{at}

pub record FoundAt (text : List ℕ) (from byte r : ℕ) : Type 0 where
  pub low : min from (length text) ≤ r
  pub high : r ≤ length text
  pub none : (k : ℕ) → from ≤ k → k < r → at text k ≢ byte
  pub there : r < length text → at text r ≡ byte

abbrev pub largest : ℕ
largest = 0xffff_ffff_ffff_ffff

unfoldable pub is_digit : ℕ → Bool
is_digit b = leb 48 b && leb b 57

unfoldable pub grown : ℕ → ℕ → ℕ
grown x b = cond (is_digit b) (min (x * 10 + (b - 48)) largest) 0

unfoldable pub ended : Bool → ℕ → List ℕ
ended e x = cond e (x ∷ []) []

abbrev pub ended_number : Option ℕ → List ℕ
ended_number o = ended (is_some o) (unwrap_or o 0)

unfoldable pub numbers_from : Bool → ℕ → List ℕ → List ℕ
numbers_from o x [] = ended o x
numbers_from o x (b ∷ bs) = ended (o && not (is_digit b)) x ++ numbers_from (is_digit b) (grown x b) bs

abbrev pub numbers_in : List ℕ → List ℕ
numbers_in bs = numbers_from false 0 bs
