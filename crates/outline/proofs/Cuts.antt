-- The cuts of a table's rings, of one or of two, and a ring that has none.
use mathlib.Core.Path.{◌≡◌, sym, ap, ◌∙◌}
use mathlib.Core.Logic.{⊎_elim}
use mathlib.Core.Bool.{Bool, true, false, cond}
use Prim.Native.Nat.{ℕ, ◌+◌, ◌≤◌, ◌<◌}
use native.Mathlib.Decide.{ℕ_discrete}
use native.Mathlib.Omega.{arith}
use lib.Dec.{T, ltb, ltb→lt, lt→ltb}
use Rattle.numbers.proofs.Truth.{is_true, is_false, le_or_lt}
use Rattle.rules.specs.Bus.{Table, clockwise, counterclockwise, mirror}
use Rattle.rules.specs.Line.{cut, HasCuts, idle, board_cut}
use Rattle.rules.specs.Refusals.{Answers, line_checks}
use Rattle.table.specs.Sound.{Sound}
use Rattle.ring.specs.Route.{Element}
use Rattle.ring.specs.Rows.{on_ring}
use Rattle.ring.proofs.Cut.{cut_low, cut_idle}
use Rattle.ring.proofs.Mirror.{mirror_element}
use Rattle.ring.proofs.Rows.{ring_cut}
use Rattle.outline.proofs.Outlined.{cut_refused}

-- ---- rings that the table has, and rings that it has not

pub there : {d r : ℕ} → d < r → ltb d r ≡ true
there {d} {r} l = is_true (ltb d r) (lt→ltb d r l)

pub not_there : {d r : ℕ} → r ≤ d → ltb d r ≡ false
not_there {d} {r} l = is_false (ltb d r) (λ h. let m : d < r = ltb→lt d r h in omega arith)

module _ {t : Table} (s : Sound t) where
  -- no row runs on a ring that is not there
  cut_off : (d : ℕ) → t.rings ≤ d → cut t d ≡ 1
  cut_off d l = cut_idle t d (omega (arith, s.elements_low)) (λ i m e. omega (arith, (s.row i m).way_known))

  cut_there : (d : ℕ) → cond (ltb d t.rings) (cut t d) 1 ≡ cut t d
  cut_there d =
      ⊎_elim (λ l. rw (not_there {d = d} {r = t.rings} l) (sym (cut_off d l))) (λ l. rw (there {d = d} {r = t.rings} l))
      (le_or_lt t.rings d)

  -- what is searched for is the table's cut
  pub cut_searched : (d : ℕ) {x : ℕ}
      → x ≡ cond (ltb d t.rings) (cut (on_ring t.elements t.rows t.first t.second t.way) d) 1 → x ≡ cut t d
  cut_searched d e = e ∙ ap (λ (k : ℕ). cond (ltb d t.rings) k 1) (ring_cut t d) ∙ cut_there d

  -- ring d is the lowest without a cut
  pub uncut_refused : (d : ℕ) → cut t d ≡ t.elements + 1 → ((e : ℕ) → e < d → cut t e ≤ t.elements) → Answers (line_checks t) 10 d
  uncut_refused d e has =
      cut_refused t d (⊎_elim (λ m. absurd (omega (arith, cut_off d m, s.elements_low, e))) (λ m. m) (le_or_lt t.rings d)) has
      (omega (arith, e))

  -- both rings have one
  module _ {c q : ℕ} (e : c ≡ cut t clockwise) (f : q ≡ cut t counterclockwise) (l : c ≤ t.elements) (m : q ≤ t.elements) where
    pub all_cut : HasCuts t
    all_cut d k = go (ℕ_discrete d clockwise)
      where
        go : Dec (d ≡ clockwise) → cut t d ≤ t.elements
        go (yes z) = rw z (rw e at l)
        go (no n) = let z : d ≡ counterclockwise = omega (arith, n, k, s.rings_few) in rw z (rw f at m)

    pub cut_element : Element t.elements c
    cut_element = record { low = omega (arith, e, cut_low t clockwise); high = l }

    pub other_element : Element t.elements q
    other_element = record { low = omega (arith, f, cut_low t counterclockwise); high = m }

  -- as the board's own number
  pub cut_board : (d : ℕ) {x y : ℕ} → x ≡ cut t d
      → y ≡ cond (ltb d t.rings) (cond (idle t d) 1 (mirror t.elements d x)) 0 → y ≡ board_cut t d
  unfolding board_cut
  cut_board d e f = f ∙ ap (λ (k : ℕ). cond (ltb d t.rings) (cond (idle t d) 1 (mirror t.elements d k)) 0) e

  -- an element of a ring that is there, 0 of another
  pub board_element : HasCuts t → (d : ℕ) → d < t.rings → Element t.elements (board_cut t d)
  unfolding board_cut
  board_element has d l = rw (there {d = d} {r = t.rings} l) (on (idle t d))
    where
      on : (b : Bool) → Element t.elements (cond b 1 (mirror t.elements d (cut t d)))
      on true = record { low = omega arith; high = omega (arith, s.elements_low) }
      on false = mirror_element d (record { low = cut_low t d; high = has d l })

  pub board_none : (d : ℕ) → t.rings ≤ d → board_cut t d ≡ 0
  unfolding board_cut
  board_none d l = rw (not_there {d = d} {r = t.rings} l)

  pub board_high : HasCuts t → (d : ℕ) → board_cut t d ≤ t.elements
  board_high has d =
      ⊎_elim (λ l. omega (arith, board_none d l)) (λ l. (board_element has d l).high) (le_or_lt t.rings d)
