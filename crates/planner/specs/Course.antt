-- Intervals planned one after the other.
--
--   Course t k had m now ws   the intervals from k up to m take rows that have had `had` slots to `now`; ws are their words, joined in
--                          order
--   Coursed t k m had now was out   such a course of intervals is done: `now` are the totals after it, and `out`, which held `was`, has its
--                          words at the front
use Rattle.std.specs.Prelude.{◌≡◌, List, [], ◌++◌, ℕ, suc, length}
use Rattle.numbers.specs.Lists.{at}
use Rattle.rules.specs.Bounds.{max_rows}
use Rattle.rules.specs.Bus.{Table}
use Rattle.rules.specs.Calls.{lent}
use Rattle.interval.specs.Interval.{Moved}

pub data Course (t : Table) (k : ℕ) (had : ℕ → ℕ) : ℕ → (ℕ → ℕ) → List ℕ → Type 0 where
  start : Course t k had k had []
  on : {m : ℕ} {mid now : ℕ → ℕ} {vs ws : List ℕ} → Course t k had m mid vs → Moved t m mid now ws → Course t k had (suc m) now (vs ++ ws)

pub record Coursed (t : Table) (k m : ℕ) (had now was out : List ℕ) : Type 0 where
  pub size : length now ≡ max_rows
  pub words : List ℕ
  pub course : Course t k (at had) m (at now) words
  pub written : out ≡ lent words was
