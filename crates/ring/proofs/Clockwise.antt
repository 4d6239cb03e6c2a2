-- Steps round a ring of M elements: steps M a b segments lie from element a clockwise to element b.
--
--   Round M y x      x steps lead where y steps lead: x is y, or y and once round
use mathlib.Core.Path.{◌≡◌, ap, ◌∙◌}
use mathlib.Core.Logic.{◌⊎◌, inl, inr, ⊎_elim}
use Prim.Native.Nat.{ℕ, ◌+◌, ◌-◌, ◌%◌, ◌≤◌, ◌<◌}
use native.Mathlib.Nat.{mod-eq_of_lt, mod-eq-sub-mod}
use native.Mathlib.Omega.{arith}
use Rattle.numbers.proofs.Truth.{le_or_lt}
use Rattle.rules.specs.Bus.{steps}
use Rattle.ring.specs.Route.{Element}

abbrev pub Round : ℕ → ℕ → ℕ → Type 0
Round M y x = (x ≡ y) ⊎ (x ≡ y + M)

-- ---- one stretch

-- b is not before a: the stretch does not pass from M to 1
pub steps_on : {M a b : ℕ} → Element M a → Element M b → a ≤ b → steps M a b ≡ b - a
unfolding steps
steps_on {M} {a} {b} ea eb h =
    let long : M ≤ b + M - a = omega arith in
    let rest : b + M - a - M ≡ b - a = omega arith in
    let less : b - a < M = omega arith in
    mod-eq-sub-mod long ∙ ap (λ (k : ℕ). k % M) rest ∙ mod-eq_of_lt less

-- b is before a: the stretch passes from M to 1
pub steps_round : {M a b : ℕ} → Element M a → Element M b → b < a → steps M a b ≡ b + M - a
unfolding steps
steps_round {M} {a} {b} ea eb h = let less : b + M - a < M = omega arith in mod-eq_of_lt less

pub steps_cases : {M a b : ℕ} → Element M a → Element M b
    → ((a ≤ b) × (a + steps M a b ≡ b)) ⊎ ((b < a) × (a + steps M a b ≡ b + M))
steps_cases {M} {a} {b} ea eb =
    ⊎_elim (λ h. inl (h, omega (arith, steps_on ea eb h))) (λ h. inr (h, omega (arith, steps_round ea eb h))) (le_or_lt a b)

pub steps_less : {M a b : ℕ} → Element M a → Element M b → steps M a b < M
steps_less ea eb = ⊎_elim (λ w. omega arith) (λ w. omega arith) (steps_cases ea eb)

pub steps_same : {M a : ℕ} → Element M a → steps M a a ≡ 0
steps_same ea = ⊎_elim (λ w. omega arith) (λ w. omega arith) (steps_cases ea ea)

-- only an element itself is no step away
pub steps_zero : {M a b : ℕ} → Element M a → Element M b → steps M a b ≡ 0 → a ≡ b
steps_zero ea eb z = ⊎_elim (λ w. omega arith) (λ w. omega arith) (steps_cases ea eb)

-- ---- two stretches in a row

-- where one of the two passes from M to 1
passing : {M c b x : ℕ} → Element M c → Element M b → c + x ≡ b + M → Round M (steps M c b) x
passing ec eb e = ⊎_elim (λ w. inr (omega arith)) (λ w. inl (omega arith)) (steps_cases ec eb)

-- from c to a and on to b is the way from c to b, perhaps with once round
pub steps_add : {M c a b : ℕ} → Element M c → Element M a → Element M b
    → Round M (steps M c b) (steps M c a + steps M a b)
steps_add {M} {c} {a} {b} ec ea eb =
    ⊎_elim
    (λ u.
    ⊎_elim (λ v. inl (⊎_elim (λ w. omega arith) (λ w. omega arith) (steps_cases ec eb))) (λ v. passing ec eb (omega arith))
    (steps_cases ea eb))
    (λ u.
    ⊎_elim (λ v. passing ec eb (omega arith)) (λ v. inr (⊎_elim (λ w. omega arith) (λ w. omega arith) (steps_cases ec eb)))
    (steps_cases ea eb))
    (steps_cases ec ea)
