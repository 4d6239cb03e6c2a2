-- put_row: six bytes, and then the direction or the label.
use Rattle.std.proofs.Common.{List, ℕ, ◌+◌, sym, ap, ◌∙◌}
use lib.Seq.{sets}
use Rattle.numbers.specs.Codec.{write_low}
use Rattle.rules.specs.TableFile.{row_with, last_size, last_of}
use Rattle.writer.proofs.Calls.{row_join}
use Rattle.writer.proofs.put_row.Goals as goal

pub returns : goal.returns
returns c =
    let a = c.args in
    let k = last_size a.rings a.version in
    c.put_last.ensures
    ∙ ap (λ (l : List ℕ). sets l (a.at + row_with 0) (write_low k (last_of a.rings a.row.way a.row.label))) c.put_bytes.ensures
    ∙ sym (row_join a.rings k a.row a.out.now a.at)
