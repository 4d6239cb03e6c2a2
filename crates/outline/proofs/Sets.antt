-- The overlap sets of a sound table with its cuts: the rings' list is the line's, and no two sets tie.
--
--   Ends t first second    first and second are the rows' ends on the line
use mathlib.Core.Path.{◌≡◌, refl, sym, ◌∙◌}
use mathlib.Core.List.{List}
use Prim.Native.Nat.{ℕ, ◌<◌}
use native.Mathlib.Omega.{arith}
use Rattle.rules.specs.Bus.{Table, overlap}
use Rattle.rules.specs.Line.{HasCuts, line_top, line_first, line_second, meet, SetList, Sets}
use Rattle.table.specs.Sound.{Sound}
use Rattle.ring.proofs.OnLine.{line_ordered, line_high, line_short, overlap_meet}
use Rattle.sets.specs.Sets.{OnLine}
use Rattle.outline.specs.Ties.{NoTies}
use Rattle.sets.proofs.Transfer.{Agree, agree_sym, list_agree, no_tie}

abbrev pub Ends : Table → (first second : ℕ → ℕ) → Type 0
Ends t first second = (i : ℕ) → i < t.rows → (first i ≡ line_first t i) × (second i ≡ line_second t i)

-- two rows meet alike where their ends are alike
meet_eq : (f g s u : ℕ → ℕ) (i j : ℕ) → f i ≡ g i → f j ≡ g j → s i ≡ u i → s j ≡ u j → meet f s i j ≡ meet g u i j
unfolding meet
meet_eq f g s u i j a b c d = rw (a, b, c, d)

pub own_ends : (t : Table) → Ends t (line_first t) (line_second t)
own_ends t i l = (refl, refl)

module _ (t : Table) (sound : Sound t) (clear : HasCuts t) where
  module _ (first second : ℕ → ℕ) (ends : Ends t first second) where
    pub ends_on_line : OnLine t.rows first second (line_top t)
    ends_on_line = record {
      some = sound.rows_low;
      few = sound.rows_high;
      line = λ i l. omega (arith, ends i l, line_ordered t sound clear i l);
      within = λ i l. omega (arith, ends i l, line_high t sound clear i l);
      short = omega (arith, line_short t sound clear);
    }

    ends_meet : Agree t.rows (overlap t) (meet first second)
    ends_meet i j l m =
        overlap_meet t sound clear i j l m
        ∙ sym (meet_eq first (line_first t) second (line_second t) i j (ends i l).0 (ends j m).0 (ends i l).1 (ends j m).1)

    pub line_list : (ws : List ℕ) → Sets t ws → SetList t.rows (meet first second) second ws
    line_list ws S = list_agree ends_meet (λ i l. sym (ends i l).1) S

    pub ring_list : (ws : List ℕ) → SetList t.rows (meet first second) second ws → Sets t ws
    ring_list ws S = list_agree (agree_sym ends_meet) (λ i l. (ends i l).1) S

-- #106
pub no_ties : NoTies
no_ties t sound clear x =
    no_tie t.rows (line_first t) (line_second t) (overlap_meet t sound clear) x.one x.other x.end
    x.different x.one_set x.other_set x.one_end x.other_end
