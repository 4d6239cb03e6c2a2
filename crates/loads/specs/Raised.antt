-- Arcs that are raised, one after the other, to the most that they can carry while the arcs before them stay as they are.
--
--   Pushed G i x x'     a circulation within the bounds, the same below arc i, with one more on arc i
--   Best G i x          no circulation within the bounds that agrees with x below arc i has more on arc i
--   Raised G i x x'     arc i is raised
--   Settled n G x       every arc below n is raised: of all circulations within the bounds, x is the greatest in the order of arcs
use Rattle.std.specs.Prelude.{◌≡◌, ℕ, ◌+◌, ◌≤◌, ◌<◌}
use Rattle.loads.specs.Network.{Net, Circulation, Within}

pub record Pushed (G : Net) (i : ℕ) (x x' : ℕ → ℕ) : Type 0 where
  pub circ : Circulation G x'
  pub within : Within G x'
  pub kept : (e : ℕ) → e < i → x' e ≡ x e
  pub more : x' i ≡ x i + 1

abbrev pub Best : (G : Net) (i : ℕ) (x : ℕ → ℕ) → Type 0
Best G i x = (z : ℕ → ℕ) → Circulation G z → Within G z → ((e : ℕ) → e < i → z e ≡ x e) → z i ≤ x i

pub record Raised (G : Net) (i : ℕ) (x x' : ℕ → ℕ) : Type 0 where
  pub circ : Circulation G x'
  pub within : Within G x'
  pub kept : (e : ℕ) → e < i → x' e ≡ x e
  pub best : Best G i x'

pub record Settled (n : ℕ) (G : Net) (x : ℕ → ℕ) : Type 0 where
  pub circ : Circulation G x
  pub within : Within G x
  pub best : (i : ℕ) → i < n → Best G i x
