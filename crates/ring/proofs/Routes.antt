-- Routes laid on the line that begins at a cut they don't go through: a route takes a stretch of the line, from its first end
-- up to its second, and two routes share a segment exactly if their stretches overlap.
--
--   Route M c a b    a route from element a clockwise to element b, another one, that does not go through the cut c
use mathlib.Core.Path.{◌≡◌, sym}
use mathlib.Core.Logic.{⊎_elim, ◌≢◌}
use mathlib.Core.Bool.{◌&&◌}
use Prim.Native.Nat.{ℕ, suc, ◌+◌, ◌-◌, ◌≤◌, ◌<◌}
use native.Mathlib.Omega.{arith}
use lib.Dec.{T, ltb, leb, eqb, ltb→lt, lt→ltb, leb→le, le→leb, eqb→eq}
use borrow.Author.Tests.{eq-eqb, ne_eqb}
use Rattle.numbers.specs.Finite.{any}
use Rattle.numbers.proofs.Truth.{both, fst, snd, same, decide, eqb_of, le_or_lt}
use Rattle.numbers.proofs.Finite.{any_of, least}
use Rattle.rules.specs.Bus.{steps, route_uses, route_through}
use Rattle.ring.specs.Route.{Element, line_element, line_end}
use Rattle.ring.proofs.Clockwise.{Round, steps_less, steps_same, steps_zero, steps_add}

pub record Route (M c a b : ℕ) : Type 0 where
  pub cut : Element M c
  pub first : Element M a
  pub second : Element M b
  pub differ : a ≢ b
  pub clear : T (route_through M a b c) → ⊥

-- ---- a second end on the line

pub end_at_cut : (M c e : ℕ) → e ≡ c → line_end M c e ≡ M + 1
unfolding line_end
end_at_cut M c e h = rw (eq-eqb e c h)

pub end_past_cut : (M c e : ℕ) → (e ≡ c → ⊥) → line_end M c e ≡ line_element M c e
unfolding line_end
end_past_cut M c e h = rw (ne_eqb e c h)

-- ---- the stretch of a route

-- at least one segment
pub route_some : {M c a b : ℕ} → Route M c a b → 0 < steps M a b
route_some {M} {c} {a} {b} r =
    let k : steps M a b ≢ 0 = λ z. r.differ (steps_zero r.first r.second z) in
    omega arith

-- it ends before the line does
pub route_fits : {M c a b : ℕ} → Route M c a b → steps M c a + steps M a b ≤ M
route_fits {M} {c} {a} {b} r =
    let to-first : steps M c a < M = steps_less r.cut r.first in
    let to-second : steps M a b < M = steps_less r.first r.second in
    let none : steps M c c ≡ 0 = steps_same r.cut in
    let back : Round M (steps M c c) (steps M c a + steps M a c) = steps_add r.cut r.first r.cut in
    ⊎_elim
    (λ (z : steps M a c ≤ 0). ⊎_elim (λ u. omega arith) (λ u. omega arith) back)
    (λ (p : 0 < steps M a c).
    ⊎_elim (λ (h : steps M a b ≤ steps M a c). ⊎_elim (λ u. omega arith) (λ u. omega arith) back)
    (λ (l : steps M a c < steps M a b).
    absurd (r.clear (both (ltb 0 (steps M a c)) (ltb (steps M a c) (steps M a b)) (lt→ltb _ _ p) (lt→ltb _ _ l))))
    (le_or_lt (steps M a b) (steps M a c)))
    (le_or_lt (steps M a c) 0)

-- the second end stands as many elements on as the route has segments
pub route_span : {M c a b : ℕ} → Route M c a b → line_end M c b ≡ line_element M c a + steps M a b
unfolding line_element
route_span {M} {c} {a} {b} r =
    let some : 0 < steps M a b = route_some r in
    let fits : steps M c a + steps M a b ≤ M = route_fits r in
    let add : Round M (steps M c b) (steps M c a + steps M a b) = steps_add r.cut r.first r.second in
    ⊎_elim
    (λ (h : T (eqb b c)).
    let e : b ≡ c = eqb→eq b c h in
    let z : steps M c b ≡ 0 = rw e (steps_same r.cut) in
    ⊎_elim (λ u. omega (arith, end_at_cut M c b e)) (λ u. omega (arith, end_at_cut M c b e)) add)
    (λ (h : T (eqb b c) → ⊥).
    let n : b ≢ c = λ e. h (eqb_of b c e) in
    let p : steps M c b ≢ 0 = λ z. n (sym (steps_zero r.cut r.second z)) in
    ⊎_elim (λ u. omega (arith, end_past_cut M c b n)) (λ u. omega (arith, end_past_cut M c b n)) add)
    (decide (eqb b c))

pub route_low : (M c a : ℕ) → 1 ≤ line_element M c a
unfolding line_element
route_low M c a = omega arith

pub route_ordered : {M c a b : ℕ} → Route M c a b → line_element M c a < line_end M c b
route_ordered r = omega (arith, route_some r, route_span r)

pub route_high : {M c a b : ℕ} → Route M c a b → line_end M c b ≤ M + 1
unfolding line_element
route_high r = omega (arith, route_fits r, route_span r)

-- it uses the segments that begin on its stretch, and no others

pub route_within : {M c a b s : ℕ} → Route M c a b → Element M s → T (route_uses M a b s)
    → (line_element M c a ≤ line_element M c s) × (line_element M c s < line_end M c b)
unfolding line_element
route_within {M} {c} {a} {b} {s} r es h =
    let l : steps M a s < steps M a b = ltb→lt _ _ h in
    let f : steps M c a + steps M a b ≤ M = route_fits r in
    ⊎_elim (λ u. omega (arith, route_span r)) (λ u. omega (arith, route_span r)) (steps_add r.cut r.first es)

pub route_used : {M c a b s : ℕ} → Route M c a b → Element M s → line_element M c a ≤ line_element M c s → line_element M c s < line_end M c b
    → T (route_uses M a b s)
unfolding line_element
route_used {M} {c} {a} {b} {s} r es k m =
    let less : steps M a s < M = steps_less r.first es in
    let l : steps M a s < steps M a b =
    ⊎_elim (λ u. omega (arith, route_span r)) (λ u. omega (arith, route_span r)) (steps_add r.cut r.first es)
    in
    lt→ltb _ _ l

pub route_uses_lem : {M c a b s : ℕ} → Route M c a b → Element M s
    → route_uses M a b s ≡ (leb (line_element M c a) (line_element M c s) && ltb (line_element M c s) (line_end M c b))
route_uses_lem {M} {c} {a} {b} {s} r es =
    same _ _
    (λ h.
    let w = route_within r es h in
    both (leb (line_element M c a) (line_element M c s)) (ltb (line_element M c s) (line_end M c b)) (le→leb _ _ w.0) (lt→ltb _ _ w.1))
    (λ h.
    route_used r es (leb→le _ _ (fst (leb (line_element M c a) (line_element M c s)) _ h))
    (ltb→lt _ _ (snd (leb (line_element M c a) (line_element M c s)) _ h)))

-- ---- two routes

-- They share a segment exactly if the first end of each stands before the second end of the other.
pub routes_share : {M c a b d e : ℕ} → Route M c a b → Route M c d e
    → any M (λ s. route_uses M a b (suc s) && route_uses M d e (suc s))
    ≡ (ltb (line_element M c a) (line_end M c e) && ltb (line_element M c d) (line_end M c b))
routes_share {M} {c} {a} {b} {d} {e} r q = same _ _ meet share
  where
    meet : T (any M (λ s. route_uses M a b (suc s) && route_uses M d e (suc s)))
        → T (ltb (line_element M c a) (line_end M c e) && ltb (line_element M c d) (line_end M c b))
    meet h =
        let w = least M (λ s. route_uses M a b (suc s) && route_uses M d e (suc s)) h in
        let s : ℕ = suc w.0 in
        let es : Element M s = record { low = omega arith; high = w.1 } in
        let i = route_within r es (fst (route_uses M a b s) (route_uses M d e s) w.2) in
        let j = route_within q es (snd (route_uses M a b s) (route_uses M d e s) w.2) in
        let k : line_element M c a < line_end M c e = omega (arith, i.0, j.1) in
        let l : line_element M c d < line_end M c b = omega (arith, i.1, j.0) in
        both (ltb (line_element M c a) (line_end M c e)) (ltb (line_element M c d) (line_end M c b)) (lt→ltb _ _ k) (lt→ltb _ _ l)

    at_segment : {s : ℕ} → Element M s → T (route_uses M a b s) → T (route_uses M d e s)
        → T (any M (λ s. route_uses M a b (suc s) && route_uses M d e (suc s)))
    at_segment {s} es h k =
        let z : suc (s - 1) ≡ s = omega arith in
        any_of M (λ s. route_uses M a b (suc s) && route_uses M d e (suc s)) (s - 1) (omega arith)
        (rw z (both (route_uses M a b s) (route_uses M d e s) h k))

    share : T (ltb (line_element M c a) (line_end M c e) && ltb (line_element M c d) (line_end M c b))
        → T (any M (λ s. route_uses M a b (suc s) && route_uses M d e (suc s)))
    share h =
        let k : line_element M c a < line_end M c e = ltb→lt _ _ (fst (ltb (line_element M c a) (line_end M c e)) _ h) in
        let l : line_element M c d < line_end M c b = ltb→lt _ _ (snd (ltb (line_element M c a) (line_end M c e)) _ h) in
        ⊎_elim
        (λ (m : line_element M c a ≤ line_element M c d).
        at_segment q.first (route_used r q.first m l) (route_used q q.first (omega arith) (route_ordered q)))
        (λ (m : line_element M c d < line_element M c a).
        at_segment r.first (route_used r r.first (omega arith) (route_ordered r)) (route_used q r.first (omega arith) k))
        (le_or_lt (line_element M c a) (line_element M c d))
