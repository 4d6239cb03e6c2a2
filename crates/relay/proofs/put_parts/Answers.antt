-- put_parts: one row more, or two.
use Rattle.std.proofs.Common.{[], ◌∷◌, ◌++◌}
use Rattle.relay.specs.Splitting.{numbers_of}
use Rattle.relay.proofs.Columns.{holds_one, holds_two}
use Rattle.relay.proofs.put_parts.Goals as goal

pub returns-then-goes : goal.returns-then-goes
returns-then-goes c = λ M d xs H.
    let a = c.args in
    let half = numbers_of c.to_relay.result in
    holds_two M d xs a.relay a.goes (numbers_of a.row) _ _ c.if-goes.true c.to_relay.ensures c.from_relay.ensures
    (c.put_row-then-goes.ensures.1 M d (xs ++ (half ∷ [])) (c.put_row.ensures.1 M d xs H))

pub returns-else-goes : goal.returns-else-goes
returns-else-goes c = λ M d xs H.
    let a = c.args in
    holds_one M d xs a.relay a.goes (numbers_of a.row) c.if-goes.false (c.put_row-else-goes.ensures.1 M d xs H)
