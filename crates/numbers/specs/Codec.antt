-- Numbers of k bytes, low byte first.
--
--   read_low k f p      the number whose k bytes stand in f from byte p on, 0 where k is 0
--   write_low k x       the k bytes of x; what the bytes before the last leave of x, the last one takes
use Rattle.std.specs.Prelude.{List, [], ◌∷◌, ℕ, zero, suc, ◌+◌, ◌*◌, ◌/◌, ◌%◌}
use Rattle.numbers.specs.Lists.{at}

unfoldable pub read_low : ℕ → List ℕ → ℕ → ℕ
read_low zero f p = 0
read_low (suc k) f p = at f p + 256 * read_low k f (p + 1)

unfoldable pub write_low : ℕ → ℕ → List ℕ
write_low zero x = []
write_low (suc zero) x = x ∷ []
write_low (suc (suc k)) x = x % 256 ∷ write_low (suc k) (x / 256)
