-- What a party's rows weigh on a segment, row after row, and what is answered of it.
use mathlib.Core.Path.{◌≡◌, refl, ap, ◌∙◌}
use mathlib.Core.Bool.{Bool, true, false, ◌&&◌}
use mathlib.Core.List.{List}
use Prim.Native.Nat.{ℕ, ◌+◌, ◌*◌, ◌≤◌}
use native.Mathlib.Omega.{arith}
use Rattle.numbers.specs.Finite.{sum, only}
use Rattle.numbers.specs.Lists.{at}
use Rattle.numbers.specs.Word.{bit}
use Rattle.numbers.proofs.Finite.{sum_next, sum_in_most, only_true, only_false}
use Rattle.rules.specs.Bounds.{max_slots}
use Rattle.rules.specs.Parties.{owns}
use Rattle.limited.specs.Limits.{party, RatesFit, weight_on}

module _ (rate segments label : List ℕ) (b : Bool) (s : ℕ) where
  pub weight_none : weight_on 0 rate segments label b s ≡ 0
  unfolding weight_on sum
  weight_none = refl

  abbrev counted : ℕ → Bool
  counted i = owns (party b) (at label i) && bit (at segments i) s

  next : (n : ℕ) → weight_on (n + 1) rate segments label b s ≡ weight_on n rate segments label b s + only (counted n) (at rate n)
  unfolding weight_on
  next n = sum_next n (λ i. only (counted i) (at rate i))

  -- a row that counts, and one that doesn't
  pub weight_more : (n : ℕ) → counted n ≡ true → weight_on (n + 1) rate segments label b s ≡ weight_on n rate segments label b s + at rate n
  weight_more n e = next n ∙ ap (λ (x : ℕ). weight_on n rate segments label b s + x) (only_true (counted n) (at rate n) e)

  pub weight_same : (n : ℕ) → counted n ≡ false → weight_on (n + 1) rate segments label b s ≡ weight_on n rate segments label b s
  weight_same n e = omega (arith, next n, only_false (counted n) (at rate n) e)

  pub weight_small : (n m : ℕ) → RatesFit n rate → m ≤ n → weight_on m rate segments label b s ≤ n * max_slots
  unfolding weight_on
  weight_small n m S l = omega (arith, sum_in_most m counted (at rate) max_slots (λ i k. S.small i (omega arith)))
