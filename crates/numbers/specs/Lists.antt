-- Lists by position.
--
--   at l k         the number at position k, 0 past the end
--   each n f       f 0, .., f (n − 1), joined in this order
use Rattle.std.specs.Prelude.{List, [], ◌++◌, ℕ, zero, suc, get_or}

abbrev pub at : List ℕ → ℕ → ℕ
at l k = get_or l k 0

unfoldable pub each {ℓ} : {A : Type ℓ} → ℕ → (ℕ → List A) → List A
each zero f = []
each (suc n) f = each n f ++ f n
