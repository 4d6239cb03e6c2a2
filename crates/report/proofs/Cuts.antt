-- The lines of the cuts: one of a table with one ring, two of a table with two.
use mathlib.Core.Path.{◌≡◌, sym, ap, ap₂, ◌∙◌}
use mathlib.Core.Logic.{◌≢◌, ⊎_elim}
use mathlib.Core.List.{List, [], ◌∷◌}
use Prim.Native.Nat.{ℕ, ◌≤◌, ◌<◌}
use native.Mathlib.Omega.{arith}
use borrow.Author.Tests.{eq-eqb, ne_eqb}
use Rattle.numbers.specs.Lists.{each}
use Rattle.numbers.proofs.Truth.{le_or_lt}
use Rattle.rules.specs.Bus.{Table, clockwise, counterclockwise}
use Rattle.rules.specs.Line.{HasCuts, board_cut}
use Rattle.rules.specs.Text.{Line}
use Rattle.rules.specs.Program.{cut, cut_lines}
use Rattle.decimal.specs.Puts.{PutsLine, PutsLines}
use Rattle.decimal.proofs.Puts.{puts_more}
use Rattle.decimal.proofs.Text.{text_first, text_one}
use Rattle.table.specs.Sound.{Sound}
use Rattle.outline.proofs.Cuts.{board_element, board_none}
use Rattle.report.specs.Rendered.{cuts}

one_ring : (c : ℕ) {o : ℕ} → o ≡ 0 → cuts c o ≡ cut c ∷ []
one_ring c {o} e = rw (eq-eqb o 0 e)

two_rings : (c : ℕ) {o : ℕ} → o ≢ 0 → cuts c o ≡ cut c ∷ cut o ∷ []
two_rings c {o} h = rw (ne_eqb o 0 h)

-- ---- as they are written

pub cuts_one : (c o : ℕ) {was now : List ℕ} {at next : ℕ} → o ≡ 0 → PutsLine (cut c) was at now next
    → PutsLines (cuts c o) 2 was at now next
cuts_one c o e A = (rw (one_ring c e, text_one (cut c)) A.0, omega (arith, A.1))

pub cuts_two : (c o : ℕ) {was mid now : List ℕ} {at next last : ℕ} → o ≢ 0 → PutsLine (cut c) was at mid next
    → PutsLine (cut o) mid next now last → PutsLines (cuts c o) 2 was at now last
cuts_two c o h A B = (
  rw (two_rings c h, text_first (cut c) (cut o ∷ []), text_one (cut o)) (puts_more A.0 B.0),
  omega (arith, A.1, B.1),
)

-- ---- as the program prints them

pub cuts_are : {t : Table} → Sound t → HasCuts t → {c o : ℕ} → c ≡ board_cut t clockwise → o ≡ board_cut t counterclockwise
    → cuts c o ≡ cut_lines t
unfolding each
cuts_are {t} s has {c} {o} e f = ⊎_elim one two (le_or_lt t.rings 1)
  where
    lines : ℕ → List Line
    lines d = cut (board_cut t d) ∷ []

    some : 1 ≤ t.rings
    some = omega (arith, (s.row 0 s.rows_low).way_known)

    one : t.rings ≤ 1 → cuts c o ≡ cut_lines t
    one l =
        let r : t.rings ≡ 1 = omega (arith, some) in
        one_ring c (f ∙ board_none s counterclockwise l) ∙ ap (λ (k : ℕ). cut k ∷ []) e ∙ sym (ap (λ (n : ℕ). each n lines) r)

    two : 1 < t.rings → cuts c o ≡ cut_lines t
    two l =
        let r : t.rings ≡ 2 = omega (arith, s.rings_few) in
        two_rings c (λ z. omega (arith, f, z, (board_element s has counterclockwise l).low))
        ∙ ap₂ (λ (k j : ℕ). cut k ∷ cut j ∷ []) e f ∙ sym (ap (λ (n : ℕ). each n lines) r)
