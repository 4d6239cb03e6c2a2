-- Arrays that hold a number of each row: how a loop over the rows fills one, what stands anywhere in one, and that only one fits.
use mathlib.Core.Path.{◌≡◌, refl, sym, ◌∙◌, fun_ext}
use mathlib.Core.Logic.{⊎_elim}
use mathlib.Core.List.{List, [], ◌∷◌}
use Prim.Native.Nat.{ℕ, zero, suc, ◌+◌, ◌≤◌, ◌<◌}
use native.Mathlib.Nat.{not-suc-le-zero}
use native.Mathlib.Omega.{arith}
use lib.ListN.{length, set, replicate, length-set, length-replicate}
use lib.Seq.{ext_get_or, get_or-set_same, get_or-set_other}
use Rattle.numbers.specs.Lists.{at}
use Rattle.numbers.proofs.Truth.{le_or_lt}
use Rattle.numbers.proofs.Finite.{below}
use Rattle.numbers.proofs.Lists.{zeros_at}
use Rattle.rules.specs.Bounds.{max_rows}
use Rattle.table.specs.declared.Row.{Row}
use Rattle.table.specs.Rows.{IsRow}
use Rattle.table.specs.Columns.{ByRow, column_labelled, HasRow}

pub by_row_only : {n : ℕ} {g : ℕ → ℕ} {xs ys : List ℕ} → ByRow n g xs → ByRow n g ys → xs ≡ ys
by_row_only {n} {g} {xs} {ys} X Y =
    ext_get_or 0 xs ys (X.size ∙ sym Y.size)
    (λ i l.
    ⊎_elim (λ h. let m : i < max_rows = omega (arith, X.size) in X.rest i h m ∙ sym (Y.rest i h m))
    (λ h. X.row i h ∙ sym (Y.row i h))
    (le_or_lt n i))

pub by_row_start : (g : ℕ → ℕ) → ByRow 0 g (replicate max_rows 0)
by_row_start g = record {
  size = length-replicate {A = ℕ} max_rows 0;
  row = λ i l. absurd (not-suc-le-zero l);
  rest = λ i l m. zeros_at max_rows i;
}

pub by_row_put : {i : ℕ} {g : ℕ → ℕ} {xs : List ℕ} (v : ℕ) → ByRow i g xs → i < max_rows → v ≡ g i → ByRow (i + 1) g (set xs i v)
by_row_put {i} {g} {xs} v B h e = record {
  size = length-set xs i v ∙ B.size;
  row = λ j l.
      ⊎_elim
      (λ (q : j ≡ i). rw q (get_or-set_same xs i v 0 (omega (arith, B.size)) ∙ e))
      (λ (m : j < i). get_or-set_other xs i j v 0 (λ q. omega arith) ∙ B.row j m)
      (below (let z : j < suc i = omega arith in z));
  rest = λ j l m. get_or-set_other xs i j v 0 (λ q. omega arith) ∙ B.rest j (omega arith) m;
}

-- an array of the same numbers, said otherwise
pub by_row_eq : {n : ℕ} {g h : ℕ → ℕ} {xs : List ℕ} → ByRow n g xs → ((i : ℕ) → i < n → g i ≡ h i) → ByRow n h xs
by_row_eq B e = record { size = B.size; row = λ i l. B.row i l ∙ e i l; rest = B.rest }

-- a row of columns is the table's
pub has_row : (M n k : ℕ) {cost period first second : List ℕ} (way label : List ℕ) {i x y : ℕ} {r : Row}
    → HasRow cost period first second i x y r → x ≡ at way i → y ≡ at label i
    → IsRow (column_labelled M n k cost period first second way label) i r
has_row M n k way label H x y = record {
  cost = H.cost;
  period = H.period;
  first = H.first;
  second = H.second;
  way = H.way ∙ x;
  label = H.label ∙ y;
}

-- ---- everywhere

pub past_end : (xs : List ℕ) (i : ℕ) → length xs ≤ i → at xs i ≡ 0
past_end [] i l = refl
past_end (x ∷ xs) zero l = absurd (not-suc-le-zero l)
past_end (x ∷ xs) (suc i) l = past_end xs i (omega arith)

-- an array of numbers that are 0 past the last row holds them everywhere
pub by_row_all : {n : ℕ} {g : ℕ → ℕ} {xs : List ℕ} → ByRow n g xs → ((i : ℕ) → n ≤ i → g i ≡ 0) → at xs ≡ g
by_row_all {n} {g} {xs} B z = fun_ext (λ i. ⊎_elim (λ l. rest i l ∙ sym (z i l)) (B.row i) (le_or_lt n i))
  where
    rest : (i : ℕ) → n ≤ i → at xs i ≡ 0
    rest i l =
        ⊎_elim (λ (h : length xs ≤ i). past_end xs i h) (λ (h : i < length xs). B.rest i l (omega (arith, B.size)))
        (le_or_lt (length xs) i)
