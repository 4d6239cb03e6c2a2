-- A table's rows on the line, where each ring has a clear element: first ends stand before second ends, each ring's rows on its own part of
-- the line, and two rows overlap on the board exactly if they overlap on the line.
--
--   ways_share         the theorem over the direction: routes of either ring share a segment of one ring exactly if their stretches overlap
use mathlib.Core.Path.{◌≡◌, refl, sym, ap, ◌∙◌, subst}
use mathlib.Core.Logic.{⊎_elim, ◌≢◌}
use mathlib.Core.Bool.{Bool, true, false, ◌&&◌}
use Prim.Native.Nat.{ℕ, suc, ◌+◌, ◌*◌, ◌≤◌, ◌<◌}
use native.Mathlib.Nat.{mul-le-mul_right}
use native.Mathlib.Omega.{arith}
use lib.Dec.{T, leb, ltb, eqb, eqb→eq, eqb_refl, ltb→lt, lt→ltb, leb→le, le→leb}
use Rattle.numbers.specs.Finite.{any}
use Rattle.numbers.proofs.Finite.{any_none}
use Rattle.numbers.proofs.Truth.{both, fst, snd, same, is_true, is_false, of_false, decide, eqb_of, le_or_lt, and_under}
use Rattle.rules.specs.Bounds.{max_elements, max_rings}
use Rattle.rules.specs.Bus.{Table, mirror_segment, ring_first, ring_second, uses, through, route_uses, overlap}
use Rattle.rules.specs.Line.{cut, HasCuts, on_line, ring_start, line_top, line_first, line_second, meet}
use Rattle.table.specs.Sound.{Sound}
use Rattle.ring.specs.Route.{Element, line_element, line_end}
use Rattle.ring.proofs.Routes.{Route, route_ordered, route_high, route_uses_lem, routes_share}
use Rattle.ring.proofs.Mirror.{mirror_element, mirror_differ, mirror_back, segment_element, any_mirrored}
use Rattle.ring.proofs.Cut.{cut_low, cut_clear}

-- ---- two stretches, each on its own ring's line

-- shifted alike, they overlap as before
shifted : (k a b c d : ℕ) → (ltb (k + a) (k + b) && ltb (k + c) (k + d)) ≡ (ltb a b && ltb c d)
shifted k a b c d =
    same _ _
    (λ h. both (ltb a b) (ltb c d)
    (lt→ltb a b (let z : k + a < k + b = ltb→lt _ _ (fst (ltb (k + a) (k + b)) _ h) in omega arith))
    (lt→ltb c d (let z : k + c < k + d = ltb→lt _ _ (snd (ltb (k + a) (k + b)) _ h) in omega arith)))
    (λ h. both (ltb (k + a) (k + b)) (ltb (k + c) (k + d))
    (lt→ltb (k + a) (k + b) (let z : a < b = ltb→lt a b (fst (ltb a b) _ h) in omega arith))
    (lt→ltb (k + c) (k + d) (let z : c < d = ltb→lt c d (snd (ltb a b) _ h) in omega arith)))

moved : (k a b c : ℕ) → (leb a b && ltb b c) ≡ (leb (k + a) (k + b) && ltb (k + b) (k + c))
moved k a b c =
    same _ _
    (λ h. both (leb (k + a) (k + b)) (ltb (k + b) (k + c))
    (le→leb (k + a) (k + b) (let z : a ≤ b = leb→le a b (fst (leb a b) _ h) in omega arith))
    (lt→ltb (k + b) (k + c) (let z : b < c = ltb→lt b c (snd (leb a b) _ h) in omega arith)))
    (λ h. both (leb a b) (ltb b c)
    (le→leb a b (let z : k + a ≤ k + b = leb→le _ _ (fst (leb (k + a) (k + b)) _ h) in omega arith))
    (lt→ltb b c (let z : k + b < k + c = ltb→lt _ _ (snd (leb (k + a) (k + b)) _ h) in omega arith)))

-- a line ends where the next begins
behind : (M d e a b : ℕ) → d < e → b ≤ M + 1 → ltb (e * (M + 1) + a) (d * (M + 1) + b) ≡ false
behind M d e a b l h =
    let n : d + 1 ≤ e = omega arith in
    let m : (d + 1) * (M + 1) ≤ e * (M + 1) = mul-le-mul_right (M + 1) n in
    is_false _ (λ t. let z : e * (M + 1) + a < d * (M + 1) + b = ltb→lt _ _ t in omega arith)

-- Routes of rings d and e, each laid from its ring's cut on its ring's part of the line, share a segment of one ring exactly if their
-- stretches overlap.
module _ (M : ℕ) (c : ℕ → ℕ) where
  abbrev Shared : (d e a b p q : ℕ) → Type 0
  Shared d e a b p q =
      (eqb d e && any M (λ s. route_uses M a b (suc s) && route_uses M p q (suc s)))
      ≡ (ltb (d * (M + 1) + line_element M (c d) a) (e * (M + 1) + line_end M (c e) q)
      && ltb (e * (M + 1) + line_element M (c e) p) (d * (M + 1) + line_end M (c d) b))

  pub ways_share : {d e a b p q : ℕ} → Route M (c d) a b → Route M (c e) p q → Shared d e a b p q
  ways_share {d} {e} {a} {b} {p} {q} r u = ⊎_elim (λ h. alike (eqb→eq d e h) u) other (decide (eqb d e))
    where
      one : Bool
      one = ltb (d * (M + 1) + line_element M (c d) a) (e * (M + 1) + line_end M (c e) q)

      two : Bool
      two = ltb (e * (M + 1) + line_element M (c e) p) (d * (M + 1) + line_end M (c d) b)

      alike : d ≡ e → Route M (c e) p q → Shared d e a b p q
      alike z =
          subst (λ (e : ℕ). Route M (c e) p q → Shared d e a b p q) z
          (λ v. rw (is_true (eqb d d) (eqb_refl d)) (routes_share r v ∙ sym (shifted (d * (M + 1)) _ _ _ _)))

      other : (T (eqb d e) → ⊥) → Shared d e a b p q
      other h =
          rw (is_false (eqb d e) h)
          (⊎_elim
          (λ (l : d ≤ e).
          let n : d < e = let k : d ≢ e = λ z. h (eqb_of d e z) in omega arith in
          sym (is_false (one && two)
          (λ t. of_false (behind M d e (line_element M (c e) p) (line_end M (c d) b) n (route_high r)) (snd one two t))))
          (λ (l : e < d).
          sym (is_false (one && two)
          (λ t. of_false (behind M e d (line_element M (c d) a) (line_end M (c e) q) l (route_high u)) (fst one two t))))
          (le_or_lt d e))

-- the direction test stands inside or outside
any_under : (M : ℕ) (b : Bool) (p : ℕ → Bool) → any M (λ s. b && p s) ≡ (b && any M p)
any_under M true p = refl
any_under M false p = any_none M (λ s. false) (λ i l h. h)

-- two rows of one ring share a segment of the board's numbers exactly if they share one of the ring's
overlap_ring : (t : Table) (i j : ℕ)
    → overlap t i j
    ≡ (eqb (t.way i) (t.way j)
    && any t.elements
    (λ s. route_uses t.elements (ring_first t i) (ring_second t i) (suc s)
    && route_uses t.elements (ring_first t j) (ring_second t j) (suc s)))
unfolding overlap uses
overlap_ring t i j =
    let M = t.elements in
    let p : ℕ → Bool = route_uses M (ring_first t i) (ring_second t i) in
    let q : ℕ → Bool = route_uses M (ring_first t j) (ring_second t j) in
    any_under M (eqb (t.way i) (t.way j)) _
    ∙ and_under (eqb (t.way i) (t.way j)) _ _
    (λ h. ap (λ (d : ℕ). any M (λ s. p (mirror_segment M (t.way i) (suc s)) && q (mirror_segment M d (suc s)))) (sym (eqb→eq _ _ h))
    ∙ any_mirrored M (t.way i) (λ s. p s && q s))

module _ (t : Table) (sound : Sound t) (some : HasCuts t) where
  -- a row is a route that does not go through its ring's cut
  pub row_route : (i : ℕ) → i < t.rows → Route t.elements (cut t (t.way i)) (ring_first t i) (ring_second t i)
  unfolding through
  row_route i l =
      let row = sound.row i l in
      let d = t.way i in
      let first : Element t.elements (t.first i) = record { low = row.first_low; high = row.first_high } in
      let second : Element t.elements (t.second i) = record { low = row.second_low; high = row.second_high } in
      let at_cut : Element t.elements (cut t d) = record { low = cut_low t d; high = some d row.way_known } in
      record {
        cut = at_cut;
        first = mirror_element d first;
        second = mirror_element d second;
        differ = mirror_differ d first second row.ends_differ;
        clear = rw (mirror_back d at_cut) at (cut_clear t d (some d row.way_known) i l refl);
      }

  pub line_low : (i : ℕ) → 1 ≤ line_first t i
  unfolding line_first on_line
  line_low i = omega arith

  pub line_ordered : (i : ℕ) → i < t.rows → line_first t i < line_second t i
  unfolding line_first line_second on_line line_element line_end
  line_ordered i l = omega (arith, route_ordered (row_route i l))

  pub line_high : (i : ℕ) → i < t.rows → line_second t i ≤ line_top t
  unfolding line_second on_line line_element line_end
  line_high i l =
      let n : t.way i + 1 ≤ t.rings = omega (arith, (sound.row i l).way_known) in
      let m : (t.way i + 1) * (t.elements + 1) ≤ t.rings * (t.elements + 1) = mul-le-mul_right (t.elements + 1) n in
      omega (arith, m, route_high (row_route i l))

  -- so a byte holds each of the line's elements
  pub line_short : line_top t ≤ max_rings * (max_elements + 1)
  line_short =
      let m : t.rings * (t.elements + 1) ≤ max_rings * (t.elements + 1) = mul-le-mul_right (t.elements + 1) sound.rings_few in
      omega (arith, m, sound.elements_high)

  -- row i uses exactly the segments that begin on its stretch of the line
  pub line_uses : (i s : ℕ) → i < t.rows → Element t.elements s
      → let e = ring_start t (t.way i) + on_line t (t.way i) (mirror_segment t.elements (t.way i) s) in
      uses t i s ≡ (leb (line_first t i) e && ltb e (line_second t i))
  unfolding uses line_first line_second on_line line_element line_end
  line_uses i s l es = route_uses_lem (row_route i l) (segment_element (t.way i) es) ∙ moved (ring_start t (t.way i)) _ _ _

  -- overlap on the board is overlap on the line
  pub overlap_meet : (i j : ℕ) → i < t.rows → j < t.rows → overlap t i j ≡ meet (line_first t) (line_second t) i j
  unfolding meet line_first line_second on_line line_element line_end
  overlap_meet i j l m = overlap_ring t i j ∙ ways_share t.elements (cut t) (row_route i l) (row_route j m)
