-- What plain decimal text is, and the number that it shows.
--
--   value ds       the number that the digits ds show
--   IsDigit b      the byte is one of '0', .., '9'
--   Digits ds      all of ds are digits
--   Plain ds       digits with no 0 before them: "0", or a digit above it and then any
--
-- `decimal n` is plain and has the value n, and it is the only such text (proofs/Decimal, `decimal_plain`, `decimal_value`, `plain_only`).
use Rattle.std.specs.Prelude.{List, [], ◌∷◌, ℕ, ◌+◌, ◌-◌, ◌*◌, ◌≤◌, ◌<◌}
use Rattle.rules.specs.Text.{zero_byte}

-- the value of ds after digits of value v
unfoldable pub value_from : ℕ → List ℕ → ℕ
value_from v [] = v
value_from v (d ∷ ds) = value_from (v * 10 + (d - zero_byte)) ds

abbrev pub value : List ℕ → ℕ
value ds = value_from 0 ds

abbrev pub IsDigit : ℕ → Type 0
IsDigit b = (zero_byte ≤ b) × (b < zero_byte + 10)

unfoldable pub Digits : List ℕ → Type 0
Digits [] = Unit {0}
Digits (d ∷ ds) = IsDigit d × Digits ds

pub data Plain : List ℕ → Type 0 where
  none : Plain (zero_byte ∷ [])
  some : (d : ℕ) (ds : List ℕ) → IsDigit d → zero_byte < d → Digits ds → Plain (d ∷ ds)
