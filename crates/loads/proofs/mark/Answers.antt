-- `mark` sets a bit, or leaves the word as it is.
use Rattle.std.proofs.Common.{◌^◌, bit_or, sym, ap, ◌∙◌}
use lib.Bits.{or_zero_r}
use Rattle.numbers.proofs.Finite.{only_true, only_false}
use Rattle.numbers.proofs.Word.{one_shl}
use Rattle.loads.proofs.mark.Goals as goal

pub returns-then-on : goal.returns-then-on
returns-then-on c =
    let a = c.args in
    ap (bit_or a.w) (one_shl a.q c.requires ∙ sym (only_true a.on (2 ^ a.q) c.if-on.true))

pub returns : goal.returns
returns c =
    let a = c.args in
    sym (ap (bit_or a.w) (only_false a.on (2 ^ a.q) c.if-on.false) ∙ or_zero_r a.w)
