-- The line of a row is short: its numbers have at most five digits.
use mathlib.Core.Path.{◌≡◌, ap, ◌∙◌}
use mathlib.Core.Bool.{Bool, true, false, cond}
use mathlib.Core.List.{List, [], ◌∷◌, ◌++◌}
use Prim.Native.Nat.{ℕ, zero, suc, ◌+◌, ◌*◌, ◌≤◌, ◌<◌}
use native.Mathlib.Omega.{arith}
use lib.Dec.{eqb}
use lib.ListN.{length, length-append}
use Rattle.numbers.specs.Lists.{at, each}
use Rattle.rules.specs.Text.{space, newline, decimal, fields, text_of}
use Rattle.rules.specs.TableFile.{last_size}
use Rattle.decimal.specs.Puts.{line_of}
use Rattle.decimal.proofs.Decimal.{decimal_short}
use Rattle.grammar.specs.TableText.{max_number, last_numbers}

pub each_short : (n k : ℕ) (f : ℕ → List ℕ) → ((i : ℕ) → i < n → length (f i) ≤ k) → length (each n f) ≤ k * n
unfolding each
each_short zero k f h = omega arith
each_short (suc n) k f h =
    omega (arith, length-append (each n f) (f n), each_short n k f (λ i l. h i (omega arith)), h n (omega arith))

pub line_short : (w xs : List ℕ) → ((i : ℕ) → i < length xs → at xs i ≤ max_number)
    → length (text_of (line_of w xs)) ≤ length w + 6 * length xs + 1
line_short w xs h =
    let e : length (text_of (line_of w xs)) ≡ length w + (length (fields xs) + 1) =
    length-append w (fields xs ++ (newline ∷ [])) ∙ ap (λ (k : ℕ). length w + k) (length-append (fields xs) (newline ∷ [])) in
    let s : length (fields xs) ≤ 6 * length xs =
    each_short (length xs) 6 (λ k. space ∷ decimal (at xs k)) (λ i l. omega (arith, decimal_short 4 (at xs i) (omega (arith, h i l)))) in
    omega (arith, e, s)

-- ---- rows

last_small : (r v x : ℕ) → x ≤ max_number → (length (last_numbers r v x) ≤ 1) × ((i : ℕ) → at (last_numbers r v x) i ≤ max_number)
unfolding last_numbers
last_small r v x l = go (eqb (last_size r v) 0)
  where
    one : (i : ℕ) → at (x ∷ []) i ≤ max_number
    one zero = l
    one (suc i) = omega arith

    go : (b : Bool) → (length (cond b [] (x ∷ [])) ≤ 1) × ((i : ℕ) → at (cond b [] (x ∷ [])) i ≤ max_number)
    go true = (omega arith, λ i. omega arith)
    go false = (omega arith, one)

rest_small : (a b c : ℕ) (xs : List ℕ) → a ≤ max_number → b ≤ max_number → c ≤ max_number → ((i : ℕ) → at xs i ≤ max_number)
    → (i : ℕ) → at (a ∷ b ∷ c ∷ xs) i ≤ max_number
rest_small a b c xs x y z w zero = x
rest_small a b c xs x y z w (suc zero) = y
rest_small a b c xs x y z w (suc (suc zero)) = z
rest_small a b c xs x y z w (suc (suc (suc i))) = w i

-- five numbers of 16 bits
pub row_short : (r v a b c d e : ℕ) → a ≤ max_number → b ≤ max_number → c ≤ max_number → d ≤ max_number → e ≤ max_number
    → length (text_of (line_of (decimal a) (b ∷ c ∷ d ∷ last_numbers r v e))) ≤ 30
row_short r v a b c d e x y z w u =
    let s = last_small r v e u in
    omega (
      arith,
      line_short (decimal a) (b ∷ c ∷ d ∷ last_numbers r v e) (λ i l. rest_small b c d (last_numbers r v e) y z w s.1 i),
      decimal_short 4 a (omega arith),
      s.0,
    )
