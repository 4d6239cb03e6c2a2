-- first_cells: the fields passed are numbers.
use Rattle.std.proofs.Common.{refl, arith}
use Rattle.rules.proofs.Answers.{answered}
use Rattle.text_reader.proofs.Wrongs.{handed}
use Rattle.text_reader.proofs.Lines.{celled_start, celled_next, celled_stop, celled_all}
use Rattle.text_reader.proofs.first_cells.Goals as goal

pub loop-k-init : goal.loop-k-init
loop-k-init c = celled_start _ _ refl

pub returns-in_err-value : goal.returns-in_err-value
returns-in_err-value c =
    let f = c.in_err-value.field-0.0 in
    rw (handed f c.from_residual.ensures.1)
    record { answers = celled_stop c.loop-k.invariant (omega arith) f c.in_err-value.ensures; value = tt; size = tt }

pub loop-k-preserved : goal.loop-k-preserved
loop-k-preserved c = celled_next c.loop-k.invariant (omega arith) _ c.in_ok-value.ensures

pub returns : goal.returns
returns c =
    let i = c.loop-k.invariant in
    let a = celled_all i (omega arith) in
    record { answers = answered _ a.0; value = a.1; size = i.size }
