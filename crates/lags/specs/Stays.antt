-- #105: every table that was admitted before stays admitted. The file holds a statement only; `proofs/Stays.antt` proves it.
--
--   common t           the greatest common divisor of all periods: what L was before #105
--   light_before t i    what 13 asked of row i with it
--   over_before t D     what 14 asked of a set with it
--   Stays              of every table that passes 4 to 9: what 13 or 14 is given for was so before, too
use Rattle.std.specs.Prelude.{Bool, not, ◌&&◌, ℕ, ◌*◌, T, ltb}
use Rattle.numbers.specs.Divisors.{gcd}
use Rattle.rules.specs.Bus.{Table}
use Rattle.rules.specs.Loads.{hyperperiod, load, equal_periods, light, past, over}
use Rattle.table.specs.Sound.{Sound}

abbrev pub common : Table → ℕ
common t = gcd t.rows t.period

abbrev pub light_before : Table → ℕ → Bool
light_before t i = not (equal_periods t) && ltb (t.cost i * common t) (t.period i)

abbrev pub over_before : Table → (ℕ → Bool) → Bool
over_before t D = past (equal_periods t) (hyperperiod t) (common t) (load t D)

abbrev pub Stays : Type 0
Stays =
    (t : Table) → Sound t
    → ((i : ℕ) → T (light t i) → T (light_before t i)) × ((D : ℕ → Bool) → T (over t D) → T (over_before t D))
