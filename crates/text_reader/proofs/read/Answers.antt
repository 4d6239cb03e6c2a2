-- read: a text that is not too long, whose rows have room.
use Rattle.std.proofs.Common.{List, ℕ, ap, ◌∙◌, arith}
use Rattle.rules.specs.Calls.{lent}
use Rattle.text_reader.proofs.Wrongs.{handed}
use Rattle.text_reader.proofs.Texts.{read_long, read_refused, read_short, read_done, front_of}
use Rattle.text_reader.proofs.read.Goals as goal

pub returns-then-text-gt-TEXT : goal.returns-then-text-gt-TEXT
returns-then-text-gt-TEXT c = read_long _ _ (omega arith)

pub returns-in_err-found : goal.returns-in_err-found
returns-in_err-found c =
    let f = c.in_err-found.field-0.0 in
    rw (handed f c.from_residual.ensures.1) (read_refused _ _ (omega arith) f c.in_err-found.ensures)

pub returns-then-out-size : goal.returns-then-out-size
returns-then-out-size c = read_short _ _ (omega arith) c.in_ok-found.ensures (omega arith)

pub returns : goal.returns
returns c =
    read_done _ _ (omega arith) c.in_ok-found.ensures _ (omega arith)
    (c.put_front.ensures ∙ ap (λ (xs : List ℕ). lent xs c.args.out.now) (front_of c.in_ok-found.ensures))
