-- put_all_bytes: the header stands, and the entries before entry `k` are written.
use Rattle.std.proofs.Common.{◌+◌, ◌*◌, ◌++◌, take}
use Rattle.numbers.specs.Lists.{each}
use Rattle.numbers.proofs.Lists.{Filled}
use Rattle.rules.specs.ElementList.{list_header, entry_size, memory_entry, in_file}
use Rattle.lists.proofs.put_all_bytes.Given as goal

abbrev pub invariant-loop-k : goal.invariant-loop-k
invariant-loop-k l =
    Filled l.initial.out l.out (list_header + entry_size * l.k)
    (take list_header l.initial.out ++ each l.k (λ j. in_file (memory_entry l.numbers j)))
