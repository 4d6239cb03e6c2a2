-- Laws of raising: arcs one after the other.
use mathlib.Core.Path.{◌≡◌, ◌∙◌}
use Prim.Native.Nat.{ℕ, ◌+◌, ◌≤◌, ◌<◌}
use native.Mathlib.Decide.{ℕ_discrete}
use native.Mathlib.Omega.{arith}
use Rattle.loads.specs.Network.{Net, Circulation, Within}
use Rattle.loads.specs.Raised.{Best, Raised, Settled}

module _ (G : Net) where
  -- an arc at its upper bound carries the most
  pub best_full : (i : ℕ) (x : ℕ → ℕ) → i < G.arcs → G.high i ≤ x i → Best G i x
  best_full i x l q z c w k = omega (arith, w i l)

  -- what is best of arc i goes by the arcs up to i alone
  best_same : (i : ℕ) (x x' : ℕ → ℕ) → ((e : ℕ) → e ≤ i → x' e ≡ x e) → Best G i x → Best G i x'
  best_same i x x' s b z c w k = omega (arith, b z c w (λ e l. k e l ∙ s e (omega arith)), s i (omega arith))

  pub settle_start : (x : ℕ → ℕ) → Circulation G x → Within G x → Settled 0 G x
  settle_start x c w = record { circ = c; within = w; best = λ i l. absurd (omega arith) }

  pub settle_next : (i : ℕ) (x x' : ℕ → ℕ) → Settled i G x → Raised G i x x' → Settled (i + 1) G x'
  settle_next i x x' s a = record { circ = a.circ; within = a.within; best = λ j l. go j l (ℕ_discrete j i) }
    where
      go : (j : ℕ) → j < i + 1 → Dec (j ≡ i) → Best G j x'
      go j l (yes q) = rw q a.best
      go j l (no q) = best_same j x x' (λ e m. a.kept e (omega arith)) (s.best j (omega arith))
