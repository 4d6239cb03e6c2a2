-- Nodes of the rows, laid out once for a table's intervals.
--
--   NodesOf n K words tail head out into
--                      n rows start at the nodes `tail` and end at the nodes `head`, for K sets, and each node has its rows in `out`, those
--                      that start there, and in `into`, those that end there
--
-- Only one fits (proofs/Ranges `ranged_only`; a node's rows are an equation).
use Rattle.std.specs.Prelude.{List, ℕ}
use Rattle.numbers.specs.Lists.{at}
use Rattle.rules.specs.Bounds.{max_elements}
use Rattle.loads.specs.Way.{ByNode}
use Rattle.loads.specs.Ranges.{Ranged}

pub record NodesOf (n K : ℕ) (words tail head out into : List ℕ) : Type 0 where
  pub ranged : Ranged n K words tail head
  pub starting : ByNode n max_elements (at tail) (at out)
  pub ending : ByNode n max_elements (at head) (at into)
