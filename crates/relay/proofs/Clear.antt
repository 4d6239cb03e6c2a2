-- No row of the split table goes through the relay, so that each ring has a cut and 10 does not occur; and a sound table splits into a
-- sound one.
use mathlib.Core.Path.{◌≡◌, refl, sym, ap, subst, ◌∙◌}
use mathlib.Core.Logic.{⊎_elim, ◌≢◌}
use mathlib.Core.Bool.{Bool}
use Prim.Native.Nat.{ℕ, ◌≤◌, ◌<◌}
use native.Mathlib.Nat.{lt_irrefl}
use native.Mathlib.Omega.{arith}
use lib.Dec.{T, ltb, ltb→lt}
use Rattle.numbers.proofs.Truth.{fst, snd, of_true, of_false, le_or_lt}
use Rattle.rules.specs.Bounds.{max_rows}
use Rattle.rules.specs.Bus.{Table, mirror, steps, route_uses, route_through, through}
use Rattle.rules.specs.Line.{cut, HasCuts}
use Rattle.rules.specs.Refusals.{no_cut, cut_checks}
use Rattle.rules.proofs.Answers.{None, single_none}
use Rattle.table.specs.Sound.{SoundRow, Sound}
use Rattle.ring.specs.Route.{Element}
use Rattle.ring.proofs.Clockwise.{steps_same}
use Rattle.ring.proofs.Mirror.{mirror_element, mirror_back}
use Rattle.ring.proofs.Cut.{cut_lowest, cut_none}
use Rattle.rules.specs.Relay.{Row, row_of, split}
use Rattle.relay.specs.Clear.{RelayClear}
use Rattle.relay.proofs.Rows.{every_row, stands_late}

-- ---- routes that end at an element, or begin there, do not go through it

to_end : (M a e : ℕ) → T (route_through M a e e) → ⊥
to_end M a e h = lt_irrefl (steps M a e) (ltb→lt _ _ (snd (ltb 0 (steps M a e)) (route_uses M a e e) h))

from_end : {M e : ℕ} (b : ℕ) → Element M e → T (route_through M e b e) → ⊥
from_end {M} {e} b x h =
    let some : 0 < steps M e e = ltb→lt 0 (steps M e e) (fst (ltb 0 (steps M e e)) (route_uses M e b e) h) in
    omega (arith, some, steps_same x)

module _ (t : Table) {r : ℕ} (x : Element t.elements r) where
  abbrev M : ℕ
  M = t.elements

  -- ---- the relay is clear

  -- what `through` says of row k, of its numbers
  abbrev goes : Row → Bool
  goes y = route_through M (mirror M y.way y.first) (mirror M y.way y.second) (mirror M y.way r)

  pub none_through : (k : ℕ) → k < (split t r).rows → T (through (split t r) k r) → ⊥
  unfolding through
  none_through =
      every_row t r (λ y. T (goes y) → ⊥) (λ i l e. of_false e)
      (λ i l e. (to_end M _ _, from_end _ (mirror_element (t.way i) x)))

  module _ (d : ℕ) where
    -- the cut of each ring is the relay, or comes before it in that ring's numbers
    pub cut_most : cut (split t r) d ≤ mirror M d r
    cut_most =
        ⊎_elim (λ (l : cut (split t r) d ≤ mirror M d r). l)
        (λ (l : mirror M d r < cut (split t r) d).
        let w = cut_lowest (split t r) d (mirror M d r) (mirror_element d x).low l in
        absurd (none_through w.0 w.1 (rw (mirror_back d x) at w.2.1)))
        (le_or_lt (cut (split t r) d) (mirror M d r))

    pub cut_there : cut (split t r) d ≤ M
    cut_there = omega (arith, cut_most, (mirror_element d x).high)

    pub never_uncut : (no_cut (split t r) d).applies → ⊥
    never_uncut h = omega (arith, cut_there, (cut_none (split t r) d).0 h)

  pub has_cuts : HasCuts (split t r)
  has_cuts d l = cut_there d

  -- 10 does not occur
  pub no_uncut : None (cut_checks (split t r))
  unfolding cut_checks
  no_uncut = single_none (λ d. no_cut (split t r) d) t.rings (λ d l. never_uncut d)

  -- ---- the split table is sound

  -- a row through the relay has other ends
  ends_differ : (i : ℕ) → T (through t i r) → (t.first i ≢ r) × (r ≢ t.second i)
  unfolding through
  ends_differ i h =
      let a = mirror M (t.way i) in (
        λ e.
            from_end (a (t.second i)) (mirror_element (t.way i) x)
            (subst (λ (k : ℕ). T (route_through M (a k) (a (t.second i)) (a r))) e h),
        λ e. to_end M (a (t.first i)) (a r) (subst (λ (k : ℕ). T (route_through M (a (t.first i)) (a k) (a r))) (sym e) h),
      )

  -- row k of a table, where it has these numbers
  abbrev SoundAs : Row → Type 0
  SoundAs y = (u : Table) (k : ℕ) → u.elements ≡ M → u.rings ≡ t.rings → row_of u k ≡ y → SoundRow u k

  -- row i with two other ends
  with_ends : (i : ℕ) → SoundRow t i → {a b : ℕ} → Element M a → Element M b → a ≢ b
      → SoundAs (record { cost = t.cost i; period = t.period i; first = a; second = b; way = t.way i })
  with_ends i S p q n u k m d e =
      let cost : u.cost k ≡ t.cost i = ap (λ (y : Row). y.cost) e in
      let period : u.period k ≡ t.period i = ap (λ (y : Row). y.period) e in
      let first : u.first k ≡ _ = ap (λ (y : Row). y.first) e in
      let second : u.second k ≡ _ = ap (λ (y : Row). y.second) e in
      let way : u.way k ≡ t.way i = ap (λ (y : Row). y.way) e in
      record {
        first_low = omega (arith, first, p.low);
        first_high = omega (arith, first, m, p.high);
        second_low = omega (arith, second, q.low);
        second_high = omega (arith, second, m, q.high);
        ends_differ = λ z. n (sym first ∙ z ∙ second);
        period_low = omega (arith, period, S.period_low);
        period_high = omega (arith, period, S.period_high);
        cost_low = omega (arith, cost, S.cost_low);
        cost_high = omega (arith, cost, period, S.cost_high);
        way_known = omega (arith, way, d, S.way_known);
      }

  module _ (S : Sound t) where
    first_end : (i : ℕ) → i < t.rows → Element M (t.first i)
    first_end i l = record { low = (S.row i l).first_low; high = (S.row i l).first_high }

    second_end : (i : ℕ) → i < t.rows → Element M (t.second i)
    second_end i l = record { low = (S.row i l).second_low; high = (S.row i l).second_high }

    sound_row : (k : ℕ) → k < (split t r).rows → SoundRow (split t r) k
    sound_row k l =
        every_row t r SoundAs
        (λ i m e. with_ends i (S.row i m) (first_end i m) (second_end i m) (S.row i m).ends_differ)
        (λ i m e.
        let n = ends_differ i (of_true e) in
        (with_ends i (S.row i m) (first_end i m) x n.0, with_ends i (S.row i m) x (second_end i m) n.1))
        k l (split t r) k refl refl refl

    pub sound_split : (split t r).rows ≤ max_rows → Sound (split t r)
    sound_split few = record {
      elements_low = S.elements_low;
      elements_high = S.elements_high;
      rows_low = omega (arith, S.rows_low, stands_late t r t.rows);
      rows_high = few;
      rings_few = S.rings_few;
      row = sound_row;
    }

pub relay_clear : RelayClear
relay_clear t r x = record { none_through = none_through t x; cut_most = cut_most t x; never_uncut = never_uncut t x }
