-- check_entries: the next entry passes, or is the first that does not.
use Rattle.std.proofs.Common.{arith}
use Rattle.lists.proofs.Entries.{few_next, read_next, read_stop, checked_end}
use Rattle.lists.proofs.check_entries.Goals as goal

pub returns-in_default : goal.returns-in_default
returns-in_default g c =
    λ f G. read_stop (G.each _ _ c.loop-k-test.true c.entry.ensures) (c.loop-k.invariant.checked f G) _ c.loop-k-test.true c.in_default.ensures

pub loop-k-preserved : goal.loop-k-preserved
loop-k-preserved g c =
    let n = few_next c.loop-k.invariant.few c.in-Some.ensures in record {
      few = n.0;
      within = n.1;
      checked = λ f G. read_next (G.each _ _ c.loop-k-test.true c.entry.ensures) (c.loop-k.invariant.checked f G) c.in-Some.ensures;
    }

pub returns : goal.returns
returns g c = λ f G. checked_end _ (c.loop-k.invariant.checked f G) (omega arith)
