-- put_line: the word, the numbers, the newline.
use Rattle.std.proofs.Common.{arith}
use Rattle.decimal.proofs.Puts.{puts_byte, puts_more}
use Rattle.decimal.proofs.put_line.Goals as goal

pub returns : goal.returns
returns c =
    let N = c.put_bytes-named.ensures in
    let F = c.put_fields-numbered.ensures in
    let B = puts_byte c.put.ensures in
    (puts_more N (puts_more F.0 B), omega (arith, N.after, F.1, B.after))
