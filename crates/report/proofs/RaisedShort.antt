-- A line of a raised row is short: its numbers have few digits.
use mathlib.Core.Path.{◌≡◌, ap, ◌∙◌}
use mathlib.Core.List.{List, [], ◌∷◌, ◌++◌}
use Prim.Native.Nat.{ℕ, ◌+◌, ◌≤◌, ◌<◌}
use native.Mathlib.Omega.{arith}
use lib.ListN.{length, length-append}
use Rattle.numbers.specs.Lists.{each}
use Rattle.rules.specs.Bounds.{max_rows, max_slots}
use Rattle.rules.specs.Text.{space, newline, decimal, text_of}
use Rattle.rules.specs.Raising.{raise}
use Rattle.decimal.specs.Puts.{max_line}
use Rattle.decimal.proofs.Decimal.{decimal_short}

pub raise_short : (i a b : ℕ) → i < max_rows → a ≤ max_slots → b ≤ max_slots → length (text_of (raise i a b)) ≤ max_line
unfolding each
raise_short i a b l m n =
    let x : List ℕ = space ∷ decimal i in
    let y : List ℕ = space ∷ decimal a in
    let z : List ℕ = space ∷ decimal b in
    let e : length ((x ++ y) ++ z ++ (newline ∷ [])) ≡ length x + length y + length z + 1 =
    length-append ((x ++ y) ++ z) (newline ∷ [])
    ∙ ap (λ (k : ℕ). k + 1) (length-append (x ++ y) z ∙ ap (λ (k : ℕ). k + length z) (length-append x y)) in
    omega (
      arith,
      e,
      decimal_short 3 i (omega arith),
      decimal_short 3 a (omega arith),
      decimal_short 3 b (omega arith),
    )
