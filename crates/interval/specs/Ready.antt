-- What one interval needs of a table, and what it gives.
--
--   Laid                    the arrays of nodes and chains that a table's intervals share
--   Ready t size top first second rate upper words L
--                           the table may be admitted; the arrays hold its rows' ends on the line, their rates and the words of its sets,
--                           folded, where `upper` are the rows of the second ring, and L are the nodes for these and the rows' chains
--   Due t k b e had         interval k is one of the table's, from slot b up to slot e, and totals `had` keep step at b
--   Advanced t k had now was out
--                           interval k is done: `now` are the totals after it, and `out`, which held `was`, has its words at the front
--
-- Only one `now` and one `out` fit (proofs/Moved, `advanced_only`).
use Rattle.std.specs.Prelude.{◌≡◌, List, ℕ, ◌-◌, ◌<◌, length, take}
use Rattle.numbers.specs.Lists.{at}
use Rattle.rules.specs.Bounds.{max_rows}
use Rattle.rules.specs.Bus.{Table}
use Rattle.rules.specs.Line.{line_top, line_first, line_second, Sets}
use Rattle.rules.specs.Loads.{hyperperiod, start, end, intervals}
use Rattle.rules.specs.Loads as loads
use Rattle.table.specs.Columns.{ByRow}
use Rattle.lags.specs.Lags.{Admissible, Steady}
use Rattle.loads.specs.declared.Size.{Size}
use Rattle.loads.specs.NodesOf.{NodesOf}
use Rattle.interval.specs.Folded.{FoldedSets}
use Rattle.interval.specs.Interval.{Moved}
use Rattle.sets.specs.Chained.{Chained}
use Rattle.placing.specs.Filled.{Kept}

pub record Laid : Type 0 where
  pub tail : List ℕ
  pub head : List ℕ
  pub out : List ℕ
  pub into : List ℕ
  pub heads : List ℕ
  pub next : List ℕ

pub record Ready (t : Table) (size : Size) (top : ℕ) (first second rate : List ℕ) (upper : ℕ) (words : List ℕ) (L : Laid) : Type 0 where
  pub admissible : Admissible t
  pub row_count : size.rows ≡ t.rows
  pub top_end : top ≡ line_top t
  pub hyper_is : size.hyper ≡ hyperperiod t
  pub firsts : ByRow t.rows (line_first t) first
  pub seconds : ByRow t.rows (line_second t) second
  pub rates : ByRow t.rows (loads.rate t) rate
  pub count : ℕ
  pub listed : List ℕ
  pub list : Sets t (take count listed)
  pub folded : FoldedSets t.rows t.elements count (at first) listed (record { upper = upper; sets = size.sets }) words
  pub laid : NodesOf t.rows size.sets words L.tail L.head L.out L.into
  pub chained : Chained t.rows (at first) L.heads L.next

pub record Due (t : Table) (k b e : ℕ) (had : List ℕ) : Type 0 where
  pub in_range : k < intervals t
  pub begins : b ≡ start t k
  pub ends : e ≡ end t k
  pub steady : Steady t b (at had)

pub record Advanced (t : Table) (k : ℕ) (had now was out : List ℕ) : Type 0 where
  pub size : length now ≡ max_rows
  pub moved : Moved t k (at had) (at now) (take (end t k - start t k) out)
  pub kept : Kept (end t k - start t k) was out
