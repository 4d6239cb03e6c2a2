-- Mirrored numbers (#112): each ring's own numbers are the board's, or those mirrored, and mirrored again they are the board's.
--
--   mirror_element, mirror_differ, mirror_back       elements
--   segment_element, segment_back, any_mirrored      segments
--   clockwise_uses, counterclockwise_uses            a row uses the board's segments from one of its ends clockwise to the other
use mathlib.Core.Path.{◌≡◌, refl, ap, ap₂, ◌∙◌}
use mathlib.Core.Logic.{◌⊎◌, inl, inr, ⊎_elim, ◌≢◌}
use mathlib.Core.Bool.{Bool, true, false, cond}
use Prim.Native.Nat.{ℕ, suc, ◌+◌, ◌-◌, ◌%◌, ◌≤◌, ◌<◌}
use native.Mathlib.Nat.{mod-eq_of_lt, mod-eq-sub-mod}
use native.Mathlib.Omega.{arith}
use lib.Dec.{T, eqb, ltb, ltb→lt, lt→ltb}
use borrow.Author.Tests.{ne_eqb}
use Rattle.numbers.specs.Finite.{any}
use Rattle.numbers.proofs.Truth.{same, le_or_lt}
use Rattle.numbers.proofs.Finite.{any_of, least}
use Rattle.rules.specs.Bus.{clockwise, mirror, mirror_segment, steps, route_uses}
use Rattle.ring.specs.Route.{Element}
use Rattle.ring.proofs.Clockwise.{steps_cases, steps_less, steps_add}

-- ---- elements

module _ {M : ℕ} where
  element_if : {e : ℕ} → Element M e → (b : Bool) → Element M (cond b e (M + 1 - e))
  element_if x true = x
  element_if x false = record { low = omega (arith, x.high); high = omega (arith, x.low) }

  differ_if : {a b : ℕ} → Element M a → Element M b → a ≢ b → (c : Bool) → cond c a (M + 1 - a) ≢ cond c b (M + 1 - b)
  differ_if x y n true = n
  differ_if x y n false = λ e. n (omega (arith, x.high, y.high))

  back_if : {e : ℕ} → Element M e → (b : Bool) → cond b (cond b e (M + 1 - e)) (M + 1 - cond b e (M + 1 - e)) ≡ e
  back_if x true = refl
  back_if x false = omega (arith, x.high)

  pub mirror_element : (d : ℕ) {e : ℕ} → Element M e → Element M (mirror M d e)
  unfolding mirror
  mirror_element d x = element_if x (eqb d clockwise)

  pub mirror_differ : (d : ℕ) {a b : ℕ} → Element M a → Element M b → a ≢ b → mirror M d a ≢ mirror M d b
  unfolding mirror
  mirror_differ d x y n = differ_if x y n (eqb d clockwise)

  pub mirror_back : (d : ℕ) {e : ℕ} → Element M e → mirror M d (mirror M d e) ≡ e
  unfolding mirror
  mirror_back d x = back_if x (eqb d clockwise)

-- ---- segments

-- a segment's number, counted from 0 at the last
rest_cases : {M s : ℕ} → Element M s → ((s < M) × (s % M ≡ s)) ⊎ ((s ≡ M) × (s % M ≡ 0))
rest_cases {M} {s} x =
    ⊎_elim
    (λ (l : M ≤ s).
    let e : s ≡ M = omega (arith, x.high) in
    let some : 0 < M = omega (arith, x.low, x.high) in
    let none : s - M ≡ 0 = omega arith in
    inr (e, mod-eq-sub-mod l ∙ ap (λ (k : ℕ). k % M) none ∙ mod-eq_of_lt some))
    (λ (l : s < M). inl (l, mod-eq_of_lt l))
    (le_or_lt M s)

-- mirrored, it is M − s, or M
turned_cases : {M s : ℕ} → Element M s → ((s < M) × (M - s % M ≡ M - s)) ⊎ ((s ≡ M) × (M - s % M ≡ M))
turned_cases {M} {s} x = ⊎_elim (λ w. inl (w.0, rw w.1)) (λ w. inr (w.0, rw w.1 (omega arith))) (rest_cases x)

turned_element : {M s : ℕ} → Element M s → Element M (M - s % M)
turned_element {M} {s} x =
    ⊎_elim
    (λ w. record { low = omega (arith, w.0, w.1); high = omega (arith, w.1) })
    (λ w. record { low = omega (arith, w.0, w.1, x.low); high = omega (arith, w.1) })
    (turned_cases x)

turned_back : {M s : ℕ} → Element M s → M - (M - s % M) % M ≡ s
turned_back {M} {s} x =
    ⊎_elim
    (λ w. ⊎_elim (λ v. omega (arith, w.0, w.1, v.1)) (λ v. omega (arith, w.0, w.1, v.0, x.low)) (turned_cases (turned_element x)))
    (λ w. ⊎_elim (λ v. omega (arith, w.1, v.0)) (λ v. omega (arith, w.0, v.1)) (turned_cases (turned_element x)))
    (turned_cases x)

module _ {M : ℕ} where
  segment_if : {s : ℕ} → Element M s → (b : Bool) → Element M (cond b s (M - s % M))
  segment_if x true = x
  segment_if x false = turned_element x

  segment_back_if : {s : ℕ} → Element M s → (b : Bool) → cond b (cond b s (M - s % M)) (M - cond b s (M - s % M) % M) ≡ s
  segment_back_if x true = refl
  segment_back_if x false = turned_back x

  pub segment_element : (d : ℕ) {s : ℕ} → Element M s → Element M (mirror_segment M d s)
  unfolding mirror_segment
  segment_element d x = segment_if x (eqb d clockwise)

  pub segment_back : (d : ℕ) {s : ℕ} → Element M s → mirror_segment M d (mirror_segment M d s) ≡ s
  unfolding mirror_segment
  segment_back d x = segment_back_if x (eqb d clockwise)

-- some segment of a ring has p, whatever the numbers
pub any_mirrored : (M d : ℕ) (p : ℕ → Bool) → any M (λ s. p (mirror_segment M d (suc s))) ≡ any M (λ s. p (suc s))
any_mirrored M d p = same _ _ to back
  where
    at_segment : (q : ℕ → Bool) {s : ℕ} → Element M s → T (q s) → T (any M (λ s. q (suc s)))
    at_segment q {s} x h =
        let z : suc (s - 1) ≡ s = omega (arith, x.low) in
        any_of M (λ s. q (suc s)) (s - 1) (omega (arith, x.low, x.high)) (rw z h)

    to : T (any M (λ s. p (mirror_segment M d (suc s)))) → T (any M (λ s. p (suc s)))
    to h =
        let w = least M (λ s. p (mirror_segment M d (suc s))) h in
        at_segment p (segment_element d (record { low = omega arith; high = w.1 })) w.2

    back : T (any M (λ s. p (suc s))) → T (any M (λ s. p (mirror_segment M d (suc s))))
    back h =
        let w = least M (λ s. p (suc s)) h in
        let x : Element M (suc w.0) = record { low = omega arith; high = w.1 } in
        at_segment (λ s. p (mirror_segment M d s)) (segment_element d x) (rw (segment_back d x) w.2)

-- ---- routes

-- a way mirrored is the way back
turned_steps : {M a b : ℕ} → Element M a → Element M b → steps M (M + 1 - a) (M + 1 - b) ≡ steps M b a
turned_steps {M} {a} {b} x y =
    ⊎_elim
    (λ u. ⊎_elim (λ v. omega (arith, x.high, y.high)) (λ v. omega (arith, x.high, y.high)) (steps_cases y x))
    (λ u. ⊎_elim (λ v. omega (arith, x.high, y.high)) (λ v. omega (arith, x.high, y.high)) (steps_cases y x))
    (steps_cases (element_if x false) (element_if y false))

-- the element that segment s leads to
abbrev next : (M s : ℕ) → ℕ
next M s = s % M + 1

next_element : {M s : ℕ} → Element M s → Element M (next M s)
next_element {M} {s} x =
    ⊎_elim
    (λ w. record { low = omega arith; high = omega (arith, w.0, w.1) })
    (λ w. record { low = omega arith; high = omega (arith, w.1, x.low, x.high) })
    (rest_cases x)

-- it is one step on, or the way has come round
next_steps : {M b s : ℕ} → Element M b → Element M s
    → (steps M b (next M s) ≡ steps M b s + 1) ⊎ ((steps M b (next M s) ≡ 0) × (steps M b s + 1 ≡ M))
next_steps {M} {b} {s} y z =
    ⊎_elim
    (λ w.
    ⊎_elim
    (λ u. ⊎_elim (λ v. inl (omega (arith, w, u, v))) (λ v. absurd (let q : ⊥ = omega (arith, w, u, v) in q)) to_next)
    (λ u. ⊎_elim (λ v. inr (omega (arith, w, u, v), omega (arith, w, u, v))) (λ v. inl (omega (arith, w, u, v))) to_next)
    (steps_cases y z))
    (λ w.
    ⊎_elim
    (λ u.
    ⊎_elim (λ v. inr (omega (arith, w, u, v, y.low), omega (arith, w, u, v, y.low))) (λ v. inl (omega (arith, w, u, v))) to_next)
    (λ u. absurd (let q : ⊥ = omega (arith, w, u, y.high) in q))
    (steps_cases y z))
    (rest_cases z)
  where
    to_next : ((b ≤ next M s) × (b + steps M b (next M s) ≡ next M s)) ⊎ ((next M s < b) × (b + steps M b (next M s) ≡ next M s + M))
    to_next = steps_cases y (next_element z)

-- The mirrored route from a to b uses, mirrored, the segments that the route from b to a uses.
turned_uses : {M a b s : ℕ} → Element M a → Element M b → Element M s
    → route_uses M (M + 1 - a) (M + 1 - b) (M - s % M) ≡ route_uses M b a s
turned_uses {M} {a} {b} {s} x y z =
    let n = next_element z in
    let turned : M - s % M ≡ M + 1 - next M s = omega arith in
    ap₂ (λ (p q : ℕ). ltb p q) (ap (steps M (M + 1 - a)) turned ∙ turned_steps x n) (turned_steps x y)
    ∙ same (ltb (steps M (next M s) a) (steps M b a)) (ltb (steps M b s) (steps M b a))
    (λ h.
    let l : steps M (next M s) a < steps M b a = ltb→lt (steps M (next M s) a) (steps M b a) h in
    lt→ltb (steps M b s) (steps M b a) (⊎_elim
    (λ u. ⊎_elim (λ v. omega (arith, u, v)) (λ v. omega (arith, u, v, steps_less y z)) (steps_add y n x))
    (λ u. ⊎_elim (λ v. omega (arith, u, v)) (λ v. omega (arith, u, v)) (steps_add y n x))
    (next_steps y z)))
    (λ h.
    let l : steps M b s < steps M b a = ltb→lt (steps M b s) (steps M b a) h in
    lt→ltb (steps M (next M s) a) (steps M b a) (⊎_elim
    (λ u. ⊎_elim (λ v. omega (arith, u, v)) (λ v. omega (arith, u, v, steps_less n x)) (steps_add y n x))
    (λ u. ⊎_elim (λ v. omega (arith, u, v, steps_less y x)) (λ v. omega (arith, u, v, steps_less y x)) (steps_add y n x))
    (next_steps y z)))

-- a row of either ring uses the board's segments from one of its ends clockwise to the other
pub clockwise_uses : {d : ℕ} (M a b s : ℕ) → d ≡ clockwise
    → route_uses M (mirror M d a) (mirror M d b) (mirror_segment M d s) ≡ route_uses M a b s
unfolding mirror mirror_segment
clockwise_uses M a b s e = rw e

pub counterclockwise_uses : {M d a b s : ℕ} → d ≢ clockwise → Element M a → Element M b → Element M s
    → route_uses M (mirror M d a) (mirror M d b) (mirror_segment M d s) ≡ route_uses M b a s
unfolding mirror mirror_segment
counterclockwise_uses {M} {d} {a} {b} {s} n x y z = rw (ne_eqb d clockwise n) (turned_uses x y z)
