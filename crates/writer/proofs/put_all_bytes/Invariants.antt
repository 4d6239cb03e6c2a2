-- put_all_bytes: the rows before row `i` are written.
use Rattle.std.proofs.Common.{◌++◌, ◌+◌, ◌*◌, take}
use Rattle.numbers.specs.Lists.{each}
use Rattle.numbers.proofs.Lists.{Filled}
use Rattle.rules.specs.TableFile.{header_size, last_size, row_size, memory_labelled_with, file_row}
use Rattle.writer.proofs.put_all_bytes.Given as goal

abbrev pub invariant-loop-i : goal.invariant-loop-i
invariant-loop-i l =
    Filled l.initial.out l.out (header_size + row_size l.rings l.version * l.i)
    (take header_size l.initial.out
    ++ each l.i (file_row (last_size l.rings l.version) (memory_labelled_with l.rings 0 l.rows l.numbers)))
