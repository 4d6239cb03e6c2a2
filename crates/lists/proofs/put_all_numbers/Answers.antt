-- put_all_numbers: one entry more is written.
use Rattle.std.proofs.Common.{arith, [], ◌≡◌}
use Rattle.numbers.proofs.Lists.{filled_start}
use Rattle.numbers.proofs.Codec.{filled_rows, filled_row}
use Rattle.rules.specs.ElementList.{file_entry, in_memory}
use Rattle.rules.proofs.Calls.{filled_lent}
use Rattle.lists.proofs.Calls.{memory_entry_lem}
use Rattle.lists.proofs.put_all_numbers.Goals as goal

pub loop-k-init : goal.loop-k-init
loop-k-init c = filled_rows [] _ (filled_start _)

pub loop-k-preserved : goal.loop-k-preserved
loop-k-preserved c =
    filled_row [] (λ j. in_memory (file_entry c.args.file.now j)) _ _ c.loop-k.invariant c.put_numbers.ensures
    (memory_entry_lem c.entry_in.ensures) (omega arith) (omega (arith, c.requires.1))

pub returns : goal.returns
returns c =
    let e : c.loop-k.k ≡ c.args.entries = omega arith in
    rw e at (filled_lent c.loop-k.invariant)
