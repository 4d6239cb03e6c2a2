-- `tally::counted` meets its contract.
use Rattle.std.proofs.Common.{rules, tests, arith}
use Rattle.live.proofs.tally.counted.Goals as goal

pub returns : goal.returns
returns c = let M = c.map.ensures.items in record {
  size = M.long;
  row = λ i l. let w = M.at i 0 0 l in let k = w.2 in search (rules, tests);
  rest = λ i l m. absurd (omega arith);
}
