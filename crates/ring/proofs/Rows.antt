-- A table's cuts and its rows' ends on the line, from its rings, its rows' ends and their directions alone.
use mathlib.Core.Path.{◌≡◌, refl, sym, ap, ◌∙◌}
use mathlib.Core.Bool.{Bool, true, false, cond}
use Prim.Native.Nat.{ℕ, ◌<◌}
use lib.Dec.{eqb}
use native.Mathlib.Omega.{arith}
use native.Mathlib.Decide.{ℕ_discrete}
use borrow.Author.Tests.{eq-eqb, ne_eqb}
use Rattle.rules.specs.Bounds.{max_rings}
use Rattle.rules.specs.Bus.{Table, clockwise, counterclockwise, through}
use Rattle.rules.specs.Line.{clear, cut, on_line, line_first, line_second}
use Rattle.table.specs.Sound.{Sound}
use Rattle.table.specs.Columns.{ByRow, OneWay}
use Rattle.table.proofs.ByRow.{by_row_eq}
use Rattle.ring.specs.Route.{Element, line_element, line_end, row_element, row_end}
use Rattle.ring.specs.Rows.{Routes, on_ring, cut_of, Renumbered}
use Rattle.ring.specs.declared.Line.{Line}

pub sound_routes : {t : Table} → Sound t → Routes t.elements t.rows t.first t.second t.way
sound_routes s = record {
  small = s.elements_high;
  few = s.rows_high;
  starts = λ i l. let row = s.row i l in record { low = row.first_low; high = row.first_high };
  ends = λ i l. let row = s.row i l in record { low = row.second_low; high = row.second_high };
  ways = λ i l. omega (arith, (s.row i l).way_known, s.rings_few);
}

pub sound_one_way : {t : Table} → Sound t → OneWay t.rings t.rows t.way
sound_one_way s r i l = omega (arith, (s.row i l).way_known, r)

-- the cut of either ring, from both
pub cut_of_lem : (g : ℕ → ℕ) {c q d : ℕ} → c ≡ g clockwise → q ≡ g counterclockwise → d < max_rings → cut_of c q d ≡ g d
unfolding cut_of
cut_of_lem g {c} {q} {d} e f l = go (ℕ_discrete d clockwise)
  where
    go : Dec (d ≡ clockwise) → cut_of c q d ≡ g d
    go (yes z) = rw (eq-eqb d clockwise z) (e ∙ ap g (sym z))
    go (no n) = rw (ne_eqb d clockwise n) (f ∙ ap g (let z : counterclockwise ≡ d = omega (arith, n, l) in z))

pub cut_element : {M c q : ℕ} (d : ℕ) → Element M c → Element M q → Element M (cut_of c q d)
unfolding cut_of
cut_element {M} {c} {q} d x y = go (eqb d clockwise)
  where
    go : (b : Bool) → Element M (cond b c q)
    go true = x
    go false = y

module _ (t : Table) where
  pub ring_cut : (d : ℕ) → cut (on_ring t.elements t.rows t.first t.second t.way) d ≡ cut t d
  unfolding cut clear through
  ring_cut d = refl

  module _ {c q : ℕ} {r : Line} (few : (i : ℕ) → i < t.rows → t.way i < max_rings) (e : c ≡ cut t clockwise)
      (f : q ≡ cut t counterclockwise) (L : Renumbered t.elements c q t.rows t.first t.second t.way r) where
    pub laid_first : ByRow t.rows (line_first t) r.first
    unfolding row_element line_first on_line line_element
    laid_first =
        by_row_eq L.starts
        (λ i l. ap (λ (k : ℕ). row_element t.elements (t.way i) k (t.first i)) (cut_of_lem (cut t) e f (few i l)))

    pub laid_second : ByRow t.rows (line_second t) r.second
    unfolding row_end line_second on_line line_end line_element
    laid_second =
        by_row_eq L.ends
        (λ i l. ap (λ (k : ℕ). row_end t.elements (t.way i) k (t.second i)) (cut_of_lem (cut t) e f (few i l)))
