-- put_all_bytes: one entry more is written.
use Rattle.std.proofs.Common.{arith, ◌≡◌, take}
use Rattle.numbers.proofs.Lists.{filled_front}
use Rattle.numbers.proofs.Codec.{filled_rows, filled_row}
use Rattle.rules.specs.ElementList.{list_header, memory_entry, in_file}
use Rattle.rules.proofs.Calls.{filled_lent}
use Rattle.lists.proofs.Calls.{file_entry_lem}
use Rattle.lists.proofs.put_all_bytes.Goals as goal

pub loop-k-init : goal.loop-k-init
loop-k-init c = filled_rows _ _ (filled_front _ list_header (omega (arith, c.requires.1)))

pub loop-k-preserved : goal.loop-k-preserved
loop-k-preserved c =
    filled_row (take list_header c.args.out.now) (λ j. in_file (memory_entry c.args.numbers.now j)) _ _ c.loop-k.invariant
    c.put_bytes.ensures (file_entry_lem c.entry_of.ensures) (omega arith) (omega (arith, c.requires.1))

pub returns : goal.returns
returns c =
    let e : c.loop-k.k ≡ c.args.entries = omega arith in
    rw e at (filled_lent c.loop-k.invariant)
