-- Rows of the split table: each is a row of the given table, or half of one.
use mathlib.Core.Path.{◌≡◌, refl, sym, ap, ap₂, subst, ◌∙◌}
use mathlib.Core.Logic.{⊎_elim}
use mathlib.Core.Bool.{Bool, true, false}
use mathlib.Core.List.{List, [], ◌∷◌, ◌++◌}
use Prim.Native.Nat.{ℕ, zero, suc, ◌+◌, ◌≤◌, ◌<◌}
use native.Mathlib.Nat.{mul-one, not-suc-le-zero, le_of_suc-le-suc}
use native.Mathlib.Omega.{arith}
use lib.ListN.{length, get_or, length-append, get_or-eq_default}
use Rattle.numbers.specs.Lists.{each}
use Rattle.numbers.proofs.Truth.{le_or_lt}
use Rattle.numbers.proofs.Lists.{each_none, each_next, each_eq, each_length, each_grows, each_part, each_find}
use Rattle.rules.specs.Bus.{Table, through}
use Rattle.rules.specs.Relay.{Row, row_of, no_row, to_relay, from_relay, becomes, split_row, split_rows, split, stands_at}

-- ---- one row

module _ (t : Table) (r i : ℕ) where
  -- a row that does not go through the relay stays as it is
  pub row_kept : through t i r ≡ false → split_row t r i ≡ row_of t i ∷ []
  unfolding split_row
  row_kept e = rw e

  pub row_split : through t i r ≡ true → split_row t r i ≡ to_relay r (row_of t i) ∷ from_relay r (row_of t i) ∷ []
  unfolding split_row
  row_split e = rw e

-- where row i stands, by what it has become
module _ (t : Table) (r : ℕ) {i : ℕ} (l : i < t.rows) where
  stands : (xs : List Row) (j : ℕ) → split_row t r i ≡ xs → j < length xs → row_of (split t r) (stands_at t r i + j) ≡ get_or xs j no_row
  unfolding split_rows
  stands xs j e m = each_part (split_row t r) no_row t.rows i j l (rw e m) ∙ ap (λ (ys : List Row). get_or ys j no_row) e

  here : row_of (split t r) (stands_at t r i + 0) ≡ row_of (split t r) (stands_at t r i)
  here = ap (row_of (split t r)) (let z : stands_at t r i + 0 ≡ stands_at t r i = omega arith in z)

  pub kept_stands : through t i r ≡ false → row_of (split t r) (stands_at t r i) ≡ row_of t i
  kept_stands e = sym here ∙ stands (row_of t i ∷ []) 0 (row_kept t r i e) (omega arith)

  module _ (e : through t i r ≡ true) where
    abbrev halves : List Row
    halves = to_relay r (row_of t i) ∷ from_relay r (row_of t i) ∷ []

    pub first_stands : row_of (split t r) (stands_at t r i) ≡ to_relay r (row_of t i)
    first_stands = sym here ∙ stands halves 0 (row_split t r i e) (omega arith)

    pub second_stands : row_of (split t r) (stands_at t r i + 1) ≡ from_relay r (row_of t i)
    second_stands = stands halves 1 (row_split t r i e) (omega arith)

-- ---- every row of the split table

one_of : (P : Row → Type 0) (x : Row) → P x → (j : ℕ) → j < 1 → P (get_or (x ∷ []) j no_row)
one_of P x p zero l = p
one_of P x p (suc j) l = absurd (not-suc-le-zero (le_of_suc-le-suc l))

two_of : (P : Row → Type 0) (x y : Row) → P x → P y → (j : ℕ) → j < 2 → P (get_or (x ∷ y ∷ []) j no_row)
two_of P x y p q zero l = p
two_of P x y p q (suc j) l = one_of P y q j (le_of_suc-le-suc l)

-- what holds of the rows that stay, and of both halves of the others, holds of all
module _ (t : Table) (r : ℕ) (P : Row → Type 0) (kept : (i : ℕ) → i < t.rows → through t i r ≡ false → P (row_of t i))
    (halves : (i : ℕ) → i < t.rows → through t i r ≡ true → P (to_relay r (row_of t i)) × P (from_relay r (row_of t i))) where
  become : (i : ℕ) → i < t.rows → (b : Bool) → through t i r ≡ b → (j : ℕ) → j < length (split_row t r i)
      → P (get_or (split_row t r i) j no_row)
  become i l true e j m = rw (row_split t r i e) (two_of P _ _ (halves i l e).0 (halves i l e).1 j (rw (row_split t r i e) at m))
  become i l false e j m = rw (row_kept t r i e) (one_of P _ (kept i l e) j (rw (row_kept t r i e) at m))

  pub every_row : (k : ℕ) → k < (split t r).rows → P (row_of (split t r) k)
  unfolding split_rows
  every_row k l =
      let w = each_find (split_row t r) t.rows k l in
      let e : row_of (split t r) k ≡ get_or (split_row t r w.0) w.1 no_row =
      ap (row_of (split t r)) w.4 ∙ each_part (split_row t r) no_row t.rows w.0 w.1 w.2 w.3 in
      subst P (sym e) (become w.0 w.2 (through t w.0 r) refl w.1 w.3)

-- ---- how many there are

some_part : (t : Table) (r i : ℕ) (b : Bool) → 1 ≤ length (becomes r b (row_of t i))
some_part t r i true = omega arith
some_part t r i false = omega arith

-- whatever the row's numbers are
pub parts_same : (r : ℕ) (b : Bool) (x y : Row) → length (becomes r b x) ≡ length (becomes r b y)
parts_same r true x y = refl
parts_same r false x y = refl

-- no row stands before where it stood
pub stands_late : (t : Table) (r i : ℕ) → i ≤ stands_at t r i
unfolding split_rows split_row each
stands_late t r zero = omega arith
stands_late t r (suc i) =
    omega (arith, length-append (each i (split_row t r)) (split_row t r i), stands_late t r i, some_part t r i (through t i r))

-- one row more
pub rows_next : (t : Table) (r i : ℕ) {b : Bool} {x : Row} → b ≡ through t i r → x ≡ row_of t i
    → split_rows t r (i + 1) ≡ split_rows t r i ++ becomes r b x
unfolding split_rows split_row
rows_next t r i e q =
    each_next i (split_row t r) ∙ ap₂ (λ (b : Bool) (x : Row). each i (split_row t r) ++ becomes r b x) (sym e) (sym q)

pub rows_none : (t : Table) (r : ℕ) → split_rows t r 0 ≡ []
unfolding split_rows
rows_none t r = each_none (split_row t r)

-- where the next row stands, and that no row stands past the last
pub stands_more : (t : Table) (r i : ℕ) {b : Bool} (x : Row) → b ≡ through t i r
    → stands_at t r (i + 1) ≡ stands_at t r i + length (becomes r b x)
stands_more t r i {b} x e =
    ap length (rows_next t r i e refl) ∙ length-append (split_rows t r i) (becomes r b (row_of t i))
    ∙ ap (λ (n : ℕ). stands_at t r i + n) (parts_same r b (row_of t i) x)

pub stands_next : (t : Table) (r i : ℕ) → stands_at t r (i + 1) ≡ stands_at t r i + length (split_row t r i)
unfolding split_rows
stands_next t r i = ap length (each_next i (split_row t r)) ∙ length-append (each i (split_row t r)) (split_row t r i)

pub stands_most : (t : Table) (r i n : ℕ) → i ≤ n → stands_at t r i ≤ stands_at t r n
unfolding split_rows
stands_most t r i n l = each_grows (split_row t r) n i l

-- ---- a relay that no row goes through

module _ (t : Table) (r : ℕ) (clear : (i : ℕ) → i < t.rows → through t i r ≡ false) where
  single : (n : ℕ) → length (each n (λ i. row_of t i ∷ [])) ≡ n
  single n = each_length n 1 (λ i. row_of t i ∷ []) (λ i l. refl) ∙ mul-one n

  same_rows : split_rows t r t.rows ≡ each t.rows (λ i. row_of t i ∷ [])
  unfolding split_rows
  same_rows = each_eq t.rows (split_row t r) (λ i. row_of t i ∷ []) (λ i l. row_kept t r i (clear i l))

  same_row : (k : ℕ) → (t.rows ≤ k → row_of t k ≡ no_row) → get_or (split_rows t r t.rows) k no_row ≡ row_of t k
  same_row k past =
      ap (λ (xs : List Row). get_or xs k no_row) same_rows
      ∙ ⊎_elim
      (λ (l : t.rows ≤ k).
      get_or-eq_default (each t.rows (λ i. row_of t i ∷ [])) no_row (omega (arith, single t.rows)) ∙ sym (past l))
      (λ (l : k < t.rows).
      let z : length (each k (λ i. row_of t i ∷ [])) + 0 ≡ k = omega (arith, single k) in
      ap (λ (j : ℕ). get_or (each t.rows (λ i. row_of t i ∷ [])) j no_row) (sym z)
      ∙ each_part (λ i. row_of t i ∷ []) no_row t.rows k 0 l (omega arith))
      (le_or_lt t.rows k)

  -- splits nothing, where the table has nothing past its last row
  pub split_none : ((k : ℕ) → t.rows ≤ k → row_of t k ≡ no_row) → split t r ≡ t
  split_none past =
      let row : (k : ℕ) → get_or (split_rows t r t.rows) k no_row ≡ row_of t k = λ k. same_row k (past k) in
      λ j. record {
        elements = t.elements;
        rows = (ap length same_rows ∙ single t.rows) j;
        rings = t.rings;
        cost = λ k. (row k j).cost;
        period = λ k. (row k j).period;
        first = λ k. (row k j).first;
        second = λ k. (row k j).second;
        way = λ k. (row k j).way;
      }
