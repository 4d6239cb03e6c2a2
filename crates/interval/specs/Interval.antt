-- One planning interval of a table, done: what its pieces give.
--
--   Moved t k had now ws    interval k takes rows that have had `had` slots to `now`, writing the words ws, by the greatest loads that
--                           qualify
--   Inverse h v             v is 2^36 / h, rounded up
--   Given n top whole had x now   n rows that have had `had` slots get x more: with their whole slots, those in the word `top` one more
--
-- Only one ws fits, and only one `now` (proofs/Moved).
use Rattle.std.specs.Prelude.{◌≡◌, List, ℕ, ◌+◌, ◌-◌, ◌*◌, ◌^◌, ◌≤◌, ◌<◌}
use Rattle.numbers.specs.Finite.{count}
use Rattle.rules.specs.Bus.{Table, overlap}
use Rattle.rules.specs.Line.{line_first}
use Rattle.rules.specs.Loads.{start, end}
use Rattle.rules.specs.Interval.{Qualify, Greatest, moves, SlotWords}
use Rattle.loads.specs.Loads.{digit}

pub record Moved (t : Table) (k : ℕ) (had now : ℕ → ℕ) (ws : List ℕ) : Type 0 where
  pub loads : ℕ → ℕ
  pub greatest : Greatest t.rows (Qualify t k had) loads
  pub words : SlotWords t.rows (overlap t) (line_first t) loads (end t k - start t k) ws
  pub placed : (i : ℕ) → i < t.rows → count (end t k - start t k) (moves ws i) ≡ loads i
  pub moved : (i : ℕ) → i < t.rows → now i ≡ had i + loads i
  pub spare : (i : ℕ) → t.rows ≤ i → now i ≡ had i

pub record Inverse (h v : ℕ) : Type 0 where
  pub least : 2 ^ 36 ≤ v * h
  pub most : v * h < 2 ^ 36 + h

pub record Given (n top : ℕ) (whole had x now : ℕ → ℕ) : Type 0 where
  pub rows : (i : ℕ) → i < n → now i ≡ whole i + digit top i
  pub loads : (i : ℕ) → i < n → had i + x i ≡ whole i + digit top i
  pub spare : (i : ℕ) → n ≤ i → now i ≡ had i
