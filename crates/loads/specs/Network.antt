-- Networks: arcs between nodes, and the amounts that the arcs carry.
--
--   Net                arcs by number: arc e leads from node tail e to node head e and carries from low e to high e
--   nodes_most        how many nodes there are at most
--   Circulation G x    with amounts x, as much leaves every set of nodes as enters it
--   Within G x         every arc carries an amount within its bounds
--   Put f k v g        g is f with v at k
use Rattle.std.specs.Prelude.{◌≡◌, Bool, ◌≢◌, ℕ, ◌+◌, ◌≤◌, ◌<◌}
use Rattle.numbers.specs.Finite.{sum_in}
use Rattle.rules.specs.Bounds.{max_elements}

pub record Net : Type 0 where
  pub arcs : ℕ
  pub tail : ℕ → ℕ
  pub head : ℕ → ℕ
  pub low : ℕ → ℕ
  pub high : ℕ → ℕ

abbrev pub nodes_most : ℕ
nodes_most = max_elements + 1

abbrev pub Circulation : Net → (ℕ → ℕ) → Type 0
Circulation G x = (r : ℕ → Bool) → sum_in G.arcs (λ e. r (G.tail e)) x ≡ sum_in G.arcs (λ e. r (G.head e)) x

abbrev pub Within : Net → (ℕ → ℕ) → Type 0
Within G x = (e : ℕ) → e < G.arcs → (G.low e ≤ x e) × (x e ≤ G.high e)

abbrev pub Put : (ℕ → ℕ) → ℕ → ℕ → (ℕ → ℕ) → Type 0
Put f k v g = (g k ≡ v) × ((w : ℕ) → w ≢ k → g w ≡ f w)
