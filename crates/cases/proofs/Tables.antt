-- A case's table file, row by row.
use mathlib.Core.Path.{◌≡◌, sym}
use mathlib.Core.Bool.{Bool, true, false}
use mathlib.Core.List.{List}
use Prim.Native.Nat.{ℕ, ◌+◌, ◌*◌, ◌≤◌}
use lib.Dec.{lit≤}
use lib.ListN.{length}
use Rattle.numbers.specs.Lists.{at, each}
use Rattle.numbers.proofs.Lists.{each_next}
use Rattle.decimal.specs.Puts.{Puts}
use Rattle.decimal.proofs.Puts.{puts_more}
use Rattle.cases.specs.Tables.{row_numbers, row_bytes, way_bytes, row_at}

pub way_short : (b : Bool) (x : ℕ) → length (way_bytes b x) ≤ 1
way_short true x = lit≤ tt
way_short false x = lit≤ tt

-- ---- one row more

pub rows_next : (b : Bool) (xs : List ℕ) (i k x : ℕ) {was one two now : List ℕ} {n p q r : ℕ} → k ≡ 1 + row_numbers b * i
    → x ≡ at xs (k + 4)
    → Puts (each i (λ j. row_at b xs (1 + row_numbers b * j))) was n one p → Puts (row_bytes xs k) one p two q
    → Puts (way_bytes b x) two q now r
    → Puts (each (i + 1) (λ j. row_at b xs (1 + row_numbers b * j))) was n now r
rows_next b xs i k x ek ex A P W =
    rw (each_next i (λ j. row_at b xs (1 + row_numbers b * j))) (puts_more A (rw (sym ek, sym ex) (puts_more P W)))
