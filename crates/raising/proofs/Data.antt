-- The data of a raised row: in each period the first of its slots, as many as its cost was.
use mathlib.Core.Path.{◌≡◌, ap, ◌∙◌}
use mathlib.Core.Bool.{Bool, ◌&&◌}
use mathlib.Core.List.{List}
use Prim.Native.Nat.{ℕ, ◌+◌, ◌-◌, ◌*◌}
use native.Mathlib.Omega.{arith}
use lib.Dec.{ltb}
use Rattle.numbers.specs.Finite.{count}
use Rattle.numbers.proofs.Finite.{count_eq, count_take}
use Rattle.rules.specs.Raising.{raised, raised_cost}
use Rattle.promises.specs.Demands.{endless, moved}
use Rattle.promises.proofs.Demands.{plan_carries}
use Rattle.raising.specs.Raises.{carries, DataArrives}
use Rattle.raising.proofs.Costs.{raised_least}

-- how many of the first s slots from slot a on the row moves in
moved_is : (ws : List ℕ) (i a s : ℕ) → moved ws i a (a + s) ≡ count s (λ k. endless ws i (a + k))
moved_is ws i a s = let e : a + s - a ≡ s = omega arith in ap (λ (n : ℕ). count n (λ k. endless ws i (a + k))) e

pub data_arrives : DataArrives
data_arrives t ws S A W i j l =
    let P : ℕ = t.period i in
    let a : ℕ = j * P in
    let own : (ℕ → Bool) = λ k. endless ws i (a + k) in
    let all : count P own ≡ raised_cost t i =
    ap (λ (n : ℕ). count n own) (ends P j) ∙ (plan_carries (raised t) ws A W).jobs i j l in
    count_eq P (carries ws i a (t.cost i)) (λ s. own s && ltb (count s own) (t.cost i))
    (λ s m. ap (λ (n : ℕ). own s && ltb n (t.cost i)) (moved_is ws i a s))
    ∙ count_take P own (t.cost i) ∙ (omega (arith, all, raised_least t S i l))
  where
    ends : (p j : ℕ) → p ≡ (j + 1) * p - j * p
    ends p j = omega arith
