-- What holds of the arrays that are laid out for a table's intervals.
use mathlib.Core.Path.{◌≡◌, refl, sym}
use mathlib.Core.List.{List}
use Prim.Native.Nat.{ℕ, ◌+◌, ◌*◌, ◌≤◌, ◌<◌}
use native.Mathlib.Nat.{mul-le-mul_right}
use native.Mathlib.Omega.{arith}
use Rattle.numbers.specs.Lists.{at}
use Rattle.rules.specs.Bounds.{max_elements, max_rings}
use Rattle.rules.specs.Bus.{Table, overlap}
use Rattle.rules.specs.Line.{line_top, line_first, line_second, meet}
use Rattle.rules.specs.Loads.{share}
use Rattle.rules.specs.Interval.{SlotWords}
use Rattle.rules.proofs.Interval.{words_as}
use Rattle.ring.proofs.OnLine.{line_low, line_ordered, line_high, overlap_meet}
use Rattle.table.specs.Columns.{ByRow}
use Rattle.table.specs.Sound.{Sound}
use Rattle.lags.specs.Lags.{Admissible}
use Rattle.loads.specs.declared.Size.{Size}
use Rattle.interval.specs.Ready.{Laid, Ready}

-- the line of two rings
pub line_narrow : {t : Table} → Sound t → line_top t ≤ max_rings * (max_elements + 1)
line_narrow {t} s =
    omega (arith, mul-le-mul_right (t.elements + 1) s.rings_few, s.elements_high)

-- the ends of a row on the line
pub ends_on_line : {t : Table} {first second : List ℕ} → Admissible t → ByRow t.rows (line_first t) first
    → ByRow t.rows (line_second t) second → (i : ℕ) → i < t.rows
    → (1 ≤ at first i) × (at first i < at second i) × (at second i ≤ line_top t)
ends_on_line {t} A F S i m =
    let f = F.row i m in
    let s = S.row i m in (
      omega (arith, line_low t A.sound A.clear i),
      omega (arith, line_ordered t A.sound A.clear i m),
      omega (arith, line_high t A.sound A.clear i m),
    )

module _ {t : Table} {size : Size} {top upper : ℕ} {first second rate words : List ℕ} {L : Laid}
    (R : Ready t size top first second rate upper words L) where
  -- ---- the ends

  pub ready_ends : (i : ℕ) → i < size.rows → (1 ≤ at first i) × (at first i < at second i) × (at second i ≤ top)
  ready_ends i l =
      let e = ends_on_line R.admissible R.firsts R.seconds i (omega (arith, R.row_count)) in
      (e.0, e.1, omega (arith, e.2, R.top_end))

  meets : (i j : ℕ) → i < t.rows → j < t.rows → meet (at first) (at second) i j ≡ overlap t i j
  unfolding meet
  meets i j l m =
      let A = R.admissible in
      rw (R.firsts.row i l, R.firsts.row j m, R.seconds.row i l, R.seconds.row j m)
      (sym (overlap_meet t A.sound A.clear i j l m))

  -- words for the line of the arrays are words for the table
  pub ready_words : {x : ℕ → ℕ} {l : ℕ} {ws : List ℕ} → SlotWords t.rows (meet (at first) (at second)) (at first) x l ws
      → SlotWords t.rows (overlap t) (line_first t) x l ws
  ready_words {x} {l} {ws} W =
      words_as t.rows (meet (at first) (at second)) (overlap t) (at first) (line_first t) x x meets R.firsts.row (λ i h. refl) l ws W

  -- ---- the shares

  pub ready_share : (i s : ℕ) → i < t.rows → at rate i * s ≡ share t i s
  ready_share i s l = rw (R.rates.row i l)
