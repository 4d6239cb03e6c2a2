-- Loads that are being settled.
--
--   Compared K h C F more less low   of K sets, with C rows rounded up and parts that sum to F: those that can take one more (by the
--                                    node after them), those that can do with one less, and those that are too low, as words
--   over out into k                  the rows that start before node k and don't end before it: at node k + 1 those of set k
--   Ends n K tail head out into      the rows' ends, and the rows that start and end at each node
--   Asked                            all that is given: the rows' ends, the parts f, and the sets' sums of them
--   State n K h tail head f s        no row and no set is above its part rounded up, and s says how they stand
--   Mended                           no row and no set is below its part rounded down either
--   Turn                             row i is the next to be raised, by the rows after it
use Rattle.std.specs.Prelude.{◌≡◌, false, ◌&&◌, List, ℕ, zero, suc, ◌+◌, ◌*◌, ◌≤◌, ◌<◌, ltb, leb}
use Rattle.std.specs.Int.Bits.{bit_xor}
use Rattle.numbers.specs.Finite.{sum_in}
use Rattle.numbers.specs.Lists.{at}
use Rattle.numbers.specs.Word.{bit}
use Rattle.loads.specs.Network.{Within}
use Rattle.loads.specs.Way.{Wired}
use Rattle.loads.specs.Loads.{in_set, last, digit, Spans, Parts, Summed}
use Rattle.loads.specs.Line.{carried, line}
use Rattle.loads.specs.declared.Sides.{Sides}

pub record Compared (K h : ℕ) (C F : ℕ → ℕ) (more less low : ℕ) : Type 0 where
  pub first : bit more 0 ≡ false
  pub more_is : (k : ℕ) → bit more (suc k) ≡ (ltb k K && ltb (h * C k) (F k))
  pub less_is : (k : ℕ) → bit less k ≡ (ltb k K && ltb (F k) (h * C k))
  pub low_is : (k : ℕ) → bit low k ≡ (ltb k K && leb (h * C k + h) (F k))

unfoldable pub over : (out into : ℕ → ℕ) → ℕ → ℕ
over out into zero = 0
over out into (suc k) = bit_xor (bit_xor (over out into k) (out k)) (into k)

pub record Ends (n K : ℕ) (tail head out into : List ℕ) : Type 0 where
  pub spans : Spans n K (at tail) (last head)
  pub heads : (i : ℕ) → i < n → 0 < at head i
  pub wired : Wired n K (at tail) (at head) (at out) (at into)

pub record Asked (n K h : ℕ) (tail head out into sum : List ℕ) (f : ℕ → ℕ) : Type 0 where
  pub ends : Ends n K tail head out into
  pub parts : Parts n h f
  pub summed : Summed n K (at tail) (last head) f (at sum)

pub record State (n K h : ℕ) (tail head : List ℕ) (f : ℕ → ℕ) (s : Sides) : Type 0 where
  pub parted_is : (i : ℕ) → i < n → bit s.parted i ≡ ltb 0 (f i)
  pub upper : (e : ℕ) → e < n + K
      → carried n (at tail) (last head) (digit s.top) e ≤ (line n K (at tail) (last head) h f).high e
  pub compared : Compared K h (λ k. sum_in n (in_set (at tail) (last head) k) (digit s.top))
      (λ k. sum_in n (in_set (at tail) (last head) k) f) s.more s.less s.low

pub record Mended (n K h : ℕ) (tail head : List ℕ) (f : ℕ → ℕ) (s : Sides) : Type 0 where
  pub state : State n K h tail head f s
  pub within : Within (line n K (at tail) (last head) h f) (carried n (at tail) (last head) (digit s.top))

pub record Turn (n K h : ℕ) (tail head out into : List ℕ) (f : ℕ → ℕ) (s : Sides) (later i : ℕ) : Type 0 where
  pub ends : Ends n K tail head out into
  pub parts : Parts n h f
  pub mended : Mended n K h tail head f s
  pub row : i < n
  pub after : (j : ℕ) → j < n → bit later j ≡ (ltb i j && bit s.parted j)
