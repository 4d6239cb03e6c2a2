-- Words: a number shows the set of its bits.
--
--   bit w i        bit i of w is set
--   Stretch a b w  the bits of w that are set are those from a up to b, without b
--   word n p       the word of the numbers below n that have p
use Rattle.std.specs.Prelude.{◌≡◌, Bool, ◌&&◌, ℕ, zero, suc, ◌/◌, ◌%◌, ◌^◌, eqb, leb, ltb}
use Rattle.std.specs.Int.Bits.{bit_or}
use Rattle.numbers.specs.Finite.{only}

unfoldable pub bit : ℕ → ℕ → Bool
bit w i = eqb (w / 2 ^ i % 2) 1

pub record Stretch (a b w : ℕ) : Type 0 where
  pub bits : (k : ℕ) → bit w k ≡ (leb a k && ltb k b)

unfoldable pub word : ℕ → (ℕ → Bool) → ℕ
word zero p = 0
word (suc n) p = bit_or (word n p) (only (p n) (2 ^ n))
