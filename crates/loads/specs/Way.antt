-- Ways: one more is brought from one node to another, by arcs that take one more or one less. The first n arcs are rows, which carry 0
-- or 1; the K arcs after them are sets, each from a node to the one before it.
--
--   Stride G may seen x x' e   arc e, which may change and lies between seen nodes, carries one more or one less, within its bounds
--   Way G may seen x x' s v    x' brings one more from node s to node v than x, by such strides; the other arcs carry what they did
--   Shut G may seen x          no arc that may change leads out of the seen nodes
--   Toggled n w x x'           of the first n arcs, those in the word w carry their other digit
--   With n w c w'              the word w' is w with c, as far as the first n bits go
--   WaysFrom n G may x s seen by  there is a way to every seen node v from s, and of the first n arcs it toggles those in by v
--   Done G may x seen done     no arc that may change leads from nodes that are done out of the seen ones
--   Visited n go far way seen seen' by by'
--                              the far ends of the arcs in `go` are now seen, each by the way and the arc
--   Entered on p way seen seen' by by'
--                              node p, if `on` says so, is now seen, by the way
--   ByNode n K end words      words v are the rows that have their end at node v
--   Wired n K tail head out into
--                              the rows' ends are nodes of a line of K sets, and out and into are the rows that start and end at each
--   Narrow K A                 the words of sets in A name sets of the line
--   Takes may lower upper e on   `on` says whether arc e may change and can go from lower to upper
--   Shown n K G may x tail head A   the words in A are the arcs of G that can take one more or one less
--   Sought n G may x s t w r   a search: there is a way from s to t that toggles w, or a shut set of nodes that has s and not t
use Rattle.std.specs.Prelude.{◌≡◌, Bool, true, false, ◌&&◌, ◌||◌, ◌⊎◌, ℕ, suc, ◌+◌, ◌-◌, ◌≤◌, ◌<◌, eqb, ltb}
use Rattle.numbers.specs.Finite.{sum_in, only}
use Rattle.numbers.specs.Word.{bit}
use Rattle.rules.specs.Bounds.{max_rows}
use Rattle.loads.specs.Network.{nodes_most, Net}
use Rattle.loads.specs.declared.flow.Arcs.{Arcs}

-- ---- ways

pub record Stride (G : Net) (may seen : ℕ → Bool) (x x' : ℕ → ℕ) (e : ℕ) : Type 0 where
  pub free : may e ≡ true
  pub begins : seen (G.tail e) ≡ true
  pub ends : seen (G.head e) ≡ true
  pub one : ((x' e ≡ x e + 1) × (x e < G.high e)) ⊎ ((x e ≡ x' e + 1) × (G.low e < x e))

pub record Way (G : Net) (may seen : ℕ → Bool) (x x' : ℕ → ℕ) (s v : ℕ) : Type 0 where
  pub owed : (r : ℕ → Bool)
      → sum_in G.arcs (λ e. r (G.tail e)) x' + only (r v) 1 ≡ sum_in G.arcs (λ e. r (G.head e)) x' + only (r s) 1
  pub arc : (e : ℕ) → e < G.arcs → (x' e ≡ x e) ⊎ Stride G may seen x x' e

pub record Shut (G : Net) (may seen : ℕ → Bool) (x : ℕ → ℕ) : Type 0 where
  pub ahead : (e : ℕ) → e < G.arcs → may e ≡ true → seen (G.tail e) ≡ true → seen (G.head e) ≡ false → G.high e ≤ x e
  pub back : (e : ℕ) → e < G.arcs → may e ≡ true → seen (G.head e) ≡ true → seen (G.tail e) ≡ false → x e ≤ G.low e

pub record Toggled (n w : ℕ) (x x' : ℕ → ℕ) : Type 0 where
  pub inside : (e : ℕ) → e < n → bit w e ≡ true → x' e ≡ 1 - x e
  pub outside : (e : ℕ) → e < n → bit w e ≡ false → x' e ≡ x e

-- ---- the search

abbrev pub With : (n w c w' : ℕ) → Type 0
With n w c w' = (e : ℕ) → e < n → bit w' e ≡ (bit w e || eqb e c)

pub record WaysFrom (n : ℕ) (G : Net) (may : ℕ → Bool) (x : ℕ → ℕ) (s seen : ℕ) (by : ℕ → ℕ) : Type 0 where
  pub start : bit seen s ≡ true
  pub way : (v : ℕ) → bit seen v ≡ true → (x' : ℕ → ℕ) × Way G may (bit seen) x x' s v × Toggled n (by v) x x'

pub record Done (G : Net) (may : ℕ → Bool) (x : ℕ → ℕ) (seen done : ℕ) : Type 0 where
  pub ahead : (e : ℕ) → e < G.arcs → may e ≡ true → bit done (G.tail e) ≡ true → bit seen (G.head e) ≡ false → G.high e ≤ x e
  pub back : (e : ℕ) → e < G.arcs → may e ≡ true → bit done (G.head e) ≡ true → bit seen (G.tail e) ≡ false → x e ≤ G.low e

pub record Visited (n : ℕ) (go : ℕ → Bool) (far : ℕ → ℕ) (way seen seen' : ℕ) (by by' : ℕ → ℕ) : Type 0 where
  pub kept : (v : ℕ) → bit seen v ≡ true → (bit seen' v ≡ true) × (by' v ≡ by v)
  pub came : (v : ℕ) → bit seen v ≡ false → bit seen' v ≡ true → (c : ℕ) × (go c ≡ true) × (far c ≡ v) × With n way c (by' v)
  pub swept : (c : ℕ) → go c ≡ true → bit seen' (far c) ≡ true

pub record Entered (on : Bool) (p way seen seen' : ℕ) (by by' : ℕ → ℕ) : Type 0 where
  pub kept : (v : ℕ) → bit seen v ≡ true → (bit seen' v ≡ true) × (by' v ≡ by v)
  pub came : (v : ℕ) → bit seen v ≡ false → bit seen' v ≡ true → (on ≡ true) × (v ≡ p) × (by' v ≡ way)
  pub swept : on ≡ true → bit seen' p ≡ true

-- ---- what is laid, and what can be taken

abbrev pub ByNode : (n K : ℕ) (end words : ℕ → ℕ) → Type 0
ByNode n K end words = (v i : ℕ) → v ≤ K → bit (words v) i ≡ (ltb i n && eqb (end i) v)

pub record Wired (n K : ℕ) (tail head out into : ℕ → ℕ) : Type 0 where
  pub few_rows : n ≤ max_rows
  pub few_nodes : K < nodes_most
  pub ends : (i : ℕ) → i < n → (tail i ≤ K) × (head i ≤ K)
  pub starting : ByNode n K tail out
  pub ending : ByNode n K head into

pub record Narrow (K : ℕ) (A : Arcs) : Type 0 where
  pub more : (v : ℕ) → bit A.more v ≡ true → (0 < v) × (v ≤ K)
  pub less : (v : ℕ) → bit A.less v ≡ true → v < K

pub record Takes (may : ℕ → Bool) (lower upper : ℕ → ℕ) (e : ℕ) (on : Bool) : Type 0 where
  pub can : on ≡ true → (may e ≡ true) × (lower e < upper e)
  pub cannot : on ≡ false → may e ≡ true → upper e ≤ lower e

pub record Shown (n K : ℕ) (G : Net) (may : ℕ → Bool) (x tail head : ℕ → ℕ) (A : Arcs) : Type 0 where
  pub arcs : G.arcs ≡ n + K
  pub rows : (i : ℕ) → i < n → (G.tail i ≡ tail i) × (G.head i ≡ head i)
  pub sets : (k : ℕ) → k < K → (G.tail (n + k) ≡ suc k) × (G.head (n + k) ≡ k)
  pub up : (i : ℕ) → i < n → Takes may x G.high i (bit A.up i)
  pub down : (i : ℕ) → i < n → Takes may G.low x i (bit A.down i)
  pub more : (k : ℕ) → k < K → Takes may x G.high (n + k) (bit A.more (suc k))
  pub less : (k : ℕ) → k < K → Takes may G.low x (n + k) (bit A.less k)
  pub digits : (i : ℕ) → i < n → (x i ≤ 1) × (G.high i ≤ 1)

pub record Sought (n : ℕ) (G : Net) (may : ℕ → Bool) (x : ℕ → ℕ) (s t w : ℕ) (r : Bool) : Type 0 where
  pub found : r ≡ true → (seen : ℕ → Bool) × (x' : ℕ → ℕ) × Way G may seen x x' s t × Toggled n w x x'
  pub none : r ≡ false → (seen : ℕ → Bool) × (seen s ≡ true) × (seen t ≡ false) × Shut G may seen x
