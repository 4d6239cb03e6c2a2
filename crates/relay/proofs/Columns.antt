-- Columns that are filled row by row.
use mathlib.Core.Path.{◌≡◌, refl, sym, ap, ap₂, subst, fun_ext, ◌∙◌}
use mathlib.Core.Logic.{⊎_elim}
use mathlib.Core.Bool.{Bool, true, false}
use mathlib.Core.List.{List, [], ◌∷◌, ◌++◌, append_assoc}
use Prim.Native.Nat.{ℕ, ◌+◌, ◌≤◌, ◌<◌}
use native.Mathlib.Omega.{arith}
use lib.ListN.{length, get_or, set, replicate, length-append, length-set, length-replicate, get_or-append, get_or-eq_default}
use lib.Seq.{get_or-append-add, get_or-set_same, get_or-set_other}
use Rattle.numbers.specs.Lists.{at}
use Rattle.numbers.proofs.Truth.{le_or_lt}
use Rattle.numbers.proofs.Lists.{zeros_at}
use Rattle.rules.specs.Bounds.{max_rows}
use Rattle.rules.specs.Bus.{Table, mirror, route_through, through}
use Rattle.table.specs.declared.columns.Columns.{Columns}
use Rattle.table.specs.declared.Row as code
use Rattle.table.specs.Sound.{Sound}
use Rattle.table.specs.Columns.{table_of, Holds, HasRow}
use Rattle.rules.specs.Relay.{Row, row_of, no_row, of_rows, to_relay, from_relay, becomes, split_rows, split}
use Rattle.relay.specs.Splitting.{numbers_of, placed, Fits}
use Rattle.relay.proofs.Rows.{stands_more, stands_most}

-- ---- no rows

zeros : (g : Row → ℕ) → g no_row ≡ 0 → at (replicate max_rows 0) ≡ (λ j. g (get_or [] j no_row))
zeros g e = fun_ext (λ j. zeros_at max_rows j ∙ sym e)

pub holds_none : (M d : ℕ) → Holds (of_rows M d []) (record {
  elements = M;
  rows = 0;
  rings = d;
  cost = replicate max_rows 0;
  period = replicate max_rows 0;
  first = replicate max_rows 0;
  second = replicate max_rows 0;
  way = replicate max_rows 0;
})
holds_none M d = record {
  table = λ j. record {
    elements = M;
    rows = 0;
    rings = d;
    cost = zeros (λ y. y.cost) refl j;
    period = zeros (λ y. y.period) refl j;
    first = zeros (λ y. y.first) refl j;
    second = zeros (λ y. y.second) refl j;
    way = zeros (λ y. y.way) refl j;
  };
  costs = length-replicate {A = ℕ} max_rows 0;
  periods = length-replicate {A = ℕ} max_rows 0;
  firsts = length-replicate {A = ℕ} max_rows 0;
  seconds = length-replicate {A = ℕ} max_rows 0;
  ways = length-replicate {A = ℕ} max_rows 0;
}

-- ---- one row more

-- in one column
column_more : (g : Row → ℕ) (xs : List Row) (y : Row) (col : List ℕ) {k : ℕ} → k ≡ length xs → k < length col
    → at col ≡ (λ j. g (get_or xs j no_row)) → at (set col k (g y)) ≡ (λ j. g (get_or (xs ++ (y ∷ [])) j no_row))
column_more g xs y col {k} e l h = fun_ext go
  where
    was : (j : ℕ) → at col j ≡ g (get_or xs j no_row)
    was j = ap (λ (f : ℕ → ℕ). f j) h

    long : length (xs ++ (y ∷ [])) ≡ k + 1
    long = omega (arith, length-append xs (y ∷ []), e)

    here : (j : ℕ) → j ≡ k → at (set col k (g y)) j ≡ g (get_or (xs ++ (y ∷ [])) j no_row)
    here j q =
        let z : length xs + 0 ≡ k = omega (arith, e) in
        rw q (get_or-set_same col k (g y) 0 l
        ∙ ap g (sym (ap (λ (i : ℕ). get_or (xs ++ (y ∷ [])) i no_row) (sym z) ∙ get_or-append-add xs (y ∷ []) 0 no_row)))

    past : (j : ℕ) → k < j → at (set col k (g y)) j ≡ g (get_or (xs ++ (y ∷ [])) j no_row)
    past j m =
        get_or-set_other col k j (g y) 0 (λ q. let z : ⊥ = omega (arith, q, m) in z) ∙ was j
        ∙ ap g (get_or-eq_default xs no_row (omega (arith, e, m))
        ∙ sym (get_or-eq_default (xs ++ (y ∷ [])) no_row (omega (arith, long, m))))

    before : (j : ℕ) → j < k → at (set col k (g y)) j ≡ g (get_or (xs ++ (y ∷ [])) j no_row)
    before j m =
        get_or-set_other col k j (g y) 0 (λ q. let z : ⊥ = omega (arith, q, m) in z) ∙ was j
        ∙ ap g (sym (get_or-append xs (y ∷ []) no_row j (omega (arith, e, m))))

    go : (j : ℕ) → at (set col k (g y)) j ≡ g (get_or (xs ++ (y ∷ [])) j no_row)
    go j =
        ⊎_elim
        (λ (m : k ≤ j). ⊎_elim (λ (a : j ≤ k). here j (omega arith)) (past j) (le_or_lt j k))
        (before j)
        (le_or_lt k j)

pub holds_more : (M d : ℕ) (xs : List Row) (c : Columns) (x : code.Row) → c.rows < max_rows → Holds (of_rows M d xs) c
    → Holds (of_rows M d (xs ++ (numbers_of x ∷ []))) (placed c x)
holds_more M d xs c x l H =
    let y = numbers_of x in
    let rows : c.rows ≡ length xs = ap (λ (t : Table). t.rows) H.table in
    let cost =
    column_more (λ y. y.cost) xs y c.cost rows (omega (arith, H.costs)) (ap (λ (t : Table). t.cost) H.table) in
    let period =
    column_more (λ y. y.period) xs y c.period rows (omega (arith, H.periods)) (ap (λ (t : Table). t.period) H.table) in
    let first =
    column_more (λ y. y.first) xs y c.first rows (omega (arith, H.firsts)) (ap (λ (t : Table). t.first) H.table) in
    let second =
    column_more (λ y. y.second) xs y c.second rows (omega (arith, H.seconds)) (ap (λ (t : Table). t.second) H.table) in
    let way =
    column_more (λ y. y.way) xs y c.way rows (omega (arith, H.ways)) (ap (λ (t : Table). t.way) H.table) in
    let long : c.rows + 1 ≡ length (xs ++ (y ∷ [])) = omega (arith, rows, length-append xs (y ∷ [])) in
    record {
      table = λ j. record {
        elements = (H.table j).elements;
        rows = long j;
        rings = (H.table j).rings;
        cost = cost j;
        period = period j;
        first = first j;
        second = second j;
        way = way j;
      };
      costs = length-set c.cost c.rows x.cost ∙ H.costs;
      periods = length-set c.period c.rows x.period ∙ H.periods;
      firsts = length-set c.first c.rows x.first ∙ H.firsts;
      seconds = length-set c.second c.rows x.second ∙ H.seconds;
      ways = length-set c.way c.rows x.way ∙ H.ways;
    }

-- ---- what a row becomes

-- columns that got one row, or two
pub holds_one : (M d : ℕ) (xs : List Row) {c : Columns} (r : ℕ) (goes : Bool) (x : Row) → goes ≡ false
    → Holds (of_rows M d (xs ++ (x ∷ []))) c → Holds (of_rows M d (xs ++ becomes r goes x)) c
holds_one M d xs r goes x e H = rw e H

pub holds_two : (M d : ℕ) (xs : List Row) {c : Columns} (r : ℕ) (goes : Bool) (x y z : Row) → goes ≡ true → y ≡ to_relay r x
    → z ≡ from_relay r x → Holds (of_rows M d ((xs ++ (y ∷ [])) ++ (z ∷ []))) c → Holds (of_rows M d (xs ++ becomes r goes x)) c
holds_two M d xs {c} r goes x y z e p q H =
    subst (λ (ys : List Row). Holds (of_rows M d ys) c)
    (append_assoc xs (y ∷ []) (z ∷ []) ∙ ap (λ (ys : List Row). xs ++ ys) (ap₂ (λ (a b : Row). a ∷ b ∷ []) p q)
    ∙ ap (λ (b : Bool). xs ++ becomes r b x) (sym e)) H

-- ---- a table's own rows

module _ (t : Table) where
  pub fits_row : Sound t → {i : ℕ} → i < t.rows → {x : code.Row} → numbers_of x ≡ row_of t i → Fits x
  fits_row S {i} l e =
      let R = S.row i l in
      record {
        first = omega (arith, ap (λ (z : Row). z.first) e, R.first_high, S.elements_high);
        second = omega (arith, ap (λ (z : Row). z.second) e, R.second_high, S.elements_high);
        way = omega (arith, ap (λ (z : Row). z.way) e, R.way_known, S.rings_few);
      }

  -- there is room for what row i becomes
  pub room_for : (r i : ℕ) {b : Bool} (x : Row) {c : Columns} {M d : ℕ} → i < t.rows → (split t r).rows ≤ max_rows → b ≡ through t i r
      → Holds (of_rows M d (split_rows t r i)) c → c.rows + length (becomes r b x) ≤ max_rows
  room_for r i x l few e H =
      omega (
        arith,
        ap (λ (u : Table). u.rows) H.table,
        stands_more t r i x e,
        stands_most t r (i + 1) t.rows (omega arith),
        few,
      )

  -- what stands in the columns of one end, or of the directions, is what the row has
  pub through_is : (i e : ℕ) {w a b : ℕ} {x : Bool} → w ≡ t.way i → a ≡ t.first i → b ≡ t.second i
      → x ≡ route_through t.elements (mirror t.elements w a) (mirror t.elements w b) (mirror t.elements w e) → x ≡ through t i e
  unfolding through
  through_is i e p q s h =
      h
      ∙ (λ j.
      route_through t.elements (mirror t.elements (p j) (q j)) (mirror t.elements (p j) (s j)) (mirror t.elements (p j) e))

-- a row of columns has these numbers
pub row_numbers_lem : (c : Columns) {i w l : ℕ} {x : code.Row} → HasRow c.cost c.period c.first c.second i w l x
    → w ≡ at c.way i → numbers_of x ≡ row_of (table_of c) i
row_numbers_lem c H e =
    λ j. record { cost = H.cost j; period = H.period j; first = H.first j; second = H.second j; way = (H.way ∙ e) j }
