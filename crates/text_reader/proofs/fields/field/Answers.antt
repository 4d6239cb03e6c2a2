use Rattle.std.proofs.Common.{◌≡◌, ◌+◌, ◌-◌, arith}
use Rattle.text_reader.proofs.LineFields.{walked_start, walked_on, walked_there}
use Rattle.text_reader.proofs.fields.field.Goals as goal

pub loop-init : goal.loop-init
loop-init c =
    let e : c.args.k - 0 ≡ c.args.k = omega arith in
    λ from. rw e (walked_start _ (c.next_field-found.ensures from))

pub next_field-found-requires-in-loop : goal.next_field-found-requires-in-loop
next_field-found-requires-in-loop c = (c.loop.invariant 0).next.high

pub loop-preserved : goal.loop-preserved
loop-preserved c =
    λ from. walked_on (c.args.k - (c.loop.counter + 1)) (c.loop.invariant from) (omega arith) (c.next_field-found-in-loop.ensures from)

pub returns : goal.returns
returns c = λ from. walked_there (c.loop.invariant from) (omega arith)
