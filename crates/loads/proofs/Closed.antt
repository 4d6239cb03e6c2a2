-- The theorem of the closed set. A set of nodes that nothing can leave by arcs above i shows that arc i, which leads into it, carries
-- the most that it can with the arcs below it as they are.
--
--   Closed G i x r    arc i ends in the set r of nodes and begins outside, and no arc above i can take more out of r
use mathlib.Core.Path.{◌≡◌, refl}
use mathlib.Core.Bool.{Bool, true, false}
use mathlib.Core.Logic.{◌≢◌}
use Prim.Native.Nat.{ℕ, ◌+◌, ◌≤◌, ◌<◌}
use native.Mathlib.Decide.{dec_lt}
use native.Mathlib.Omega.{arith}
use Rattle.numbers.specs.Finite.{only}
use Rattle.numbers.proofs.Finite.{only_true, only_false, sum_add, sum_but, le_additive}
use Rattle.loads.specs.Network.{Net, Circulation}
use Rattle.loads.specs.Raised.{Best}

pub record Closed (G : Net) (i : ℕ) (x : ℕ → ℕ) (r : ℕ → Bool) : Type 0 where
  pub inside : r (G.head i) ≡ true
  pub outside : r (G.tail i) ≡ false
  pub full : (e : ℕ) → e < G.arcs → i < e → r (G.tail e) ≡ true → r (G.head e) ≡ false → x e ≡ G.high e
  pub bare : (e : ℕ) → e < G.arcs → i < e → r (G.head e) ≡ true → r (G.tail e) ≡ false → x e ≡ G.low e

-- ---- one arc that cannot take more out of r: p says that it begins in r, q that it ends there

-- other amounts z bring no less back into r
term_le : (x z low high : ℕ) (p q : Bool) → low ≤ z → z ≤ high → (p ≡ true → q ≡ false → x ≡ high) → (q ≡ true → p ≡ false → x ≡ low)
    → only q x + only p z ≤ only p x + only q z
unfolding only
term_le x z low high true true l u f b = omega arith
term_le x z low high true false l u f b = omega (arith, f refl refl)
term_le x z low high false true l u f b = omega (arith, b refl refl)
term_le x z low high false false l u f b = omega arith

term_same : (x z : ℕ) (p q : Bool) → z ≡ x → only q x + only p z ≤ only p x + only q z
term_same x z p q e = rw e (omega arith)

-- ---- the theorem

module _ (G : Net) (i : ℕ) (x : ℕ → ℕ) (r : ℕ → Bool) (l : i < G.arcs) (circ : Circulation G x) (cl : Closed G i x r) where
  pub closed_best : Best G i x
  closed_best z circ' wz below =
      let T : (ℕ → ℕ) → ℕ → ℕ = λ y e. only (r (G.tail e)) (y e) in
      let H : (ℕ → ℕ) → ℕ → ℕ = λ y e. only (r (G.head e)) (y e) in
      let k = sum_but ◌≤◌ le_additive G.arcs (λ e. H x e + T z e) (λ e. T x e + H z e) i l (λ e m ne. term e m ne (dec_lt e i)) in
      omega (
        arith,
        k,
        sum_add G.arcs (H x) (T z),
        sum_add G.arcs (T x) (H z),
        circ r,
        circ' r,
        only_true (r (G.head i)) (x i) cl.inside,
        only_true (r (G.head i)) (z i) cl.inside,
        only_false (r (G.tail i)) (x i) cl.outside,
        only_false (r (G.tail i)) (z i) cl.outside,
      )
    where
      term : (e : ℕ) → e < G.arcs → e ≢ i → Dec (e < i)
          → only (r (G.head e)) (x e) + only (r (G.tail e)) (z e) ≤ only (r (G.tail e)) (x e) + only (r (G.head e)) (z e)
      term e m ne (yes b) = term_same (x e) (z e) _ _ (below e b)
      term e m ne (no b) =
          term_le (x e) (z e) (G.low e) (G.high e) _ _ (wz e m).0 (wz e m).1
          (cl.full e m (omega arith)) (cl.bare e m (omega arith))
