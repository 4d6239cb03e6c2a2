-- put_all_numbers: the entries before entry `k` are written.
use Rattle.std.proofs.Common.{◌*◌}
use Rattle.numbers.specs.Lists.{each}
use Rattle.numbers.proofs.Lists.{Filled}
use Rattle.rules.specs.ElementList.{entry_numbers, file_entry, in_memory}
use Rattle.lists.proofs.put_all_numbers.Given as goal

abbrev pub invariant-loop-k : goal.invariant-loop-k
invariant-loop-k l = Filled l.initial.out l.out (entry_numbers * l.k) (each l.k (λ j. in_memory (file_entry l.file j)))
