-- Rows and sets as a network. The nodes are those between the sets: row i is an arc from node a i to the node after b i, and set k an
-- arc back from node k + 1 to node k, which carries the set's sum.
--
--   join n f g          f below n, and g from n on
--   carried n a b g     rows carry g, and the sets their sums
--   line n K a b h f    the network: what an arc carries is bounded by the parts f and their sums, rounded down and up to whole slots
--   Lines n K a b t h   the arcs' ends: the rows, and then the sets
use Rattle.std.specs.Prelude.{◌≡◌, cond, ℕ, suc, ◌+◌, ◌-◌, ◌<◌, ltb}
use Rattle.numbers.specs.Finite.{sum_in}
use Rattle.numbers.specs.Rounding.{down, up}
use Rattle.loads.specs.Network.{Net}
use Rattle.loads.specs.Loads.{in_set}

unfoldable pub join : ℕ → (f g : ℕ → ℕ) → ℕ → ℕ
join n f g e = cond (ltb e n) (f e) (g (e - n))

abbrev pub carried : ℕ → (a b g : ℕ → ℕ) → ℕ → ℕ
carried n a b g = join n g (λ k. sum_in n (in_set a b k) g)

abbrev pub line : (n K : ℕ) (a b : ℕ → ℕ) (h : ℕ) (f : ℕ → ℕ) → Net
line n K a b h f = record {
  arcs = n + K;
  tail = join n a suc;
  head = join n (λ i. suc (b i)) (λ k. k);
  low = λ e. down (carried n a b f e) h;
  high = λ e. up (carried n a b f e) h;
}

pub record Lines (n K : ℕ) (a b tail head : ℕ → ℕ) : Type 0 where
  pub row_tail : (i : ℕ) → i < n → tail i ≡ a i
  pub row_head : (i : ℕ) → i < n → head i ≡ suc (b i)
  pub set_tail : (k : ℕ) → k < K → tail (n + k) ≡ suc k
  pub set_head : (k : ℕ) → k < K → head (n + k) ≡ k
