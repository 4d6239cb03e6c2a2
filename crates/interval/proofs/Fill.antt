-- The totals with each row's load, as a loop over the rows gives it. What the loop keeps is what it gives, for the rows passed.
use mathlib.Core.Path.{◌≡◌, ap, ◌∙◌}
use Prim.Native.Nat.{ℕ, ◌+◌, ◌-◌, ◌≤◌, ◌<◌}
use native.Mathlib.Decide.{ℕ_discrete}
use native.Mathlib.Omega.{arith}
use Rattle.loads.specs.Network.{Put}
use Rattle.loads.specs.Loads.{digit}
use Rattle.interval.specs.Interval.{Given}

-- the rows below m have been given, and the totals of the others are as they were

pub giving_next : (m top : ℕ) (whole had x now x' now' : ℕ → ℕ) → Given m top whole had x now → had m ≤ whole m
    → Put x m (whole m + digit top m - had m) x' → Put now m (whole m + digit top m) now' → Given (m + 1) top whole had x' now'
giving_next m top whole had x now x' now' G le p q = record {
  rows = λ i l. row i l (ℕ_discrete i m);
  loads = λ i l. load i l (ℕ_discrete i m);
  spare = λ i l. q.1 i (omega arith) ∙ G.spare i (omega arith);
}
  where
    row : (i : ℕ) → i < m + 1 → Dec (i ≡ m) → now' i ≡ whole i + digit top i
    row i l (yes e) = rw e q.0
    row i l (no e) = q.1 i e ∙ G.rows i (omega arith)

    load : (i : ℕ) → i < m + 1 → Dec (i ≡ m) → had i + x' i ≡ whole i + digit top i
    load i l (yes e) = rw e (omega (arith, p.0))
    load i l (no e) = ap (λ (u : ℕ). had i + u) (p.1 i e) ∙ G.loads i (omega arith)
