-- The rows of an overlap set meet: all of them use the segment at the first end of the row that starts last on the line, which is the
-- line of one ring.
use mathlib.Core.Path.{◌≡◌, refl, sym, ap, ◌∙◌}
use mathlib.Core.Logic.{⊎_elim, ◌≢◌}
use mathlib.Core.Bool.{Bool, not, ◌&&◌}
use Prim.Native.Nat.{ℕ, suc, ◌+◌, ◌-◌, ◌≤◌, ◌<◌}
use native.Mathlib.Omega.{arith}
use lib.Dec.{T, ltb, leb, eqb, ltb→lt, lt→ltb, le→leb, eqb→eq}
use Rattle.numbers.specs.Finite.{any, highest}
use Rattle.numbers.specs.Word.{bit}
use Rattle.numbers.proofs.Truth.{both, fst, snd, orl, orr, along, of_false, decide, refuted, eqb_of}
use Rattle.numbers.proofs.Finite.{any_of, least, every_of, highest_has, highest_above}
use Rattle.numbers.proofs.Word.{bit_word, bit_zero}
use Rattle.rules.specs.Bus.{Table, mirror_segment, ring_first, uses, overlap, common}
use Rattle.rules.specs.Line.{HasCuts, on_line, ring_start, line_top, line_first, line_second, meet, OverlapSet}
use Rattle.table.specs.Sound.{Sound}
use Rattle.ring.specs.Route.{Element}
use Rattle.ring.proofs.Mirror.{mirror_element, segment_element, segment_back}
use Rattle.ring.proofs.OnLine.{line_ordered, line_high, line_uses, overlap_meet}
use Rattle.meeting.specs.Meet.{SetsMeet}

module _ (t : Table) (sound : Sound t) (some : HasCuts t) (D : ℕ → Bool) (O : OverlapSet t.rows (overlap t) D) where
  -- a set of no rows could take any
  has_row : T (any t.rows D)
  has_row =
      ⊎_elim (λ h. h)
      (λ h.
      any_of t.rows D 0 sound.rows_low
      (O.full 0 sound.rows_low (λ i d. absurd (h (any_of t.rows D i (O.rows i d) d)))))
      (decide (any t.rows D))

  abbrev started : ℕ → Bool
  started v = any t.rows (λ i. D i && eqb (line_first t i) v)

  low_first : (i : ℕ) → T (D i) → line_first t i < line_top t
  low_first i d = omega (arith, line_ordered t sound some i (O.rows i d), line_high t sound some i (O.rows i d))

  is_started : (i : ℕ) → T (D i) → T (started (line_first t i))
  is_started i d =
      any_of t.rows _ i (O.rows i d) (both (D i) (eqb (line_first t i) (line_first t i)) d (eqb_of (line_first t i) (line_first t i) refl))

  -- the row that starts last
  record Last : Type 0 where
    row : ℕ
    is_in : T (D row)
    last : (i : ℕ) → T (D i) → line_first t i ≤ line_first t row

  last : Last
  last =
      let r = least t.rows D has_row in
      let top = highest_has (line_top t) started (line_first t r.0) (low_first r.0 r.2) (is_started r.0 r.2) in
      let w = least t.rows _ top in
      let e : line_first t w.0 ≡ highest (line_top t) started = eqb→eq _ _ (snd (D w.0) _ w.2) in
      record {
        row = w.0;
        is_in = fst (D w.0) _ w.2;
        last = λ i d. omega (arith, e, highest_above (line_top t) started (line_first t i) (low_first i d) (is_started i d));
      }

  -- it is a row of this ring, and starts there with this segment
  abbrev ring : ℕ
  ring = t.way last.row

  starts : Element t.elements (ring_first t last.row)
  starts =
      let row = sound.row last.row (O.rows last.row last.is_in) in
      mirror_element ring (record { low = row.first_low; high = row.first_high })

  abbrev at : ℕ
  at = mirror_segment t.elements ring (ring_first t last.row)

  on_board : Element t.elements at
  on_board = segment_element ring starts

  -- so are all rows of the set
  one_ring : (i : ℕ) → T (D i) → t.way i ≡ ring
  unfolding overlap
  one_ring i d =
      let w = least t.elements _ (O.pairs i last.row d last.is_in) in
      eqb→eq (t.way i) ring (fst (eqb (t.way i) ring) _ w.2)

  -- on the line of each of them the segment begins where the last row starts
  at_last : (i : ℕ) → T (D i)
      → ring_start t (t.way i) + on_line t (t.way i) (mirror_segment t.elements (t.way i) at) ≡ line_first t last.row
  unfolding line_first
  at_last i d =
      ap (λ (r : ℕ). ring_start t r + on_line t r (mirror_segment t.elements r at)) (one_ring i d)
      ∙ ap (λ (e : ℕ). ring_start t ring + on_line t ring e) (segment_back ring starts)

  all_use : (i : ℕ) → T (D i) → T (uses t i at)
  unfolding meet
  all_use i d =
      let l = O.rows i d in
      let first = line_first t last.row in
      let met =
      along (overlap_meet t sound some i last.row l (O.rows last.row last.is_in)) (O.pairs i last.row d last.is_in) in
      let before = ltb→lt first (line_second t i) (snd (ltb (line_first t i) (line_second t last.row)) _ met) in
      along (sym (line_uses t sound some i at l on_board))
      (along (ap (λ (e : ℕ). leb (line_first t i) e && ltb e (line_second t i)) (sym (at_last i d)))
      (both (leb (line_first t i) first) (ltb first (line_second t i)) (le→leb _ _ (last.last i d)) (lt→ltb _ _ before)))

  common_some : common t D ≢ 0
  unfolding common
  common_some z =
      let s : suc (at - 1) ≡ at = omega (arith, on_board.low) in
      let l : at - 1 < t.elements = omega (arith, on_board.low, on_board.high) in
      of_false (bit_zero (at - 1))
      (along (ap (λ (w : ℕ). bit w (at - 1)) z)
      (along (sym (bit_word t.elements _ (at - 1)))
      (both (ltb (at - 1) t.elements) _ (lt→ltb _ _ l)
      (every_of t.rows _
      (λ i h.
      ⊎_elim (λ d. orr (not (D i)) _ (rw s (all_use i d))) (λ n. orl (not (D i)) _ (refuted (D i) n)) (decide (D i)))))))

pub sets_meet : SetsMeet
sets_meet t sound some ws S k l = common_some t sound some _ (S.each k l)
