-- The bounds of document 01, "The bus and its tables": they stand here once and are cited everywhere.
use Rattle.std.specs.Prelude.{ℕ}

abbrev pub max_elements : ℕ
max_elements = 32

abbrev pub max_rows : ℕ
max_rows = 64

abbrev pub max_slots : ℕ
max_slots = 4096

-- one each way (#112)
abbrev pub max_rings : ℕ
max_rings = 2
