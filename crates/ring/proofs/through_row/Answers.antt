use Rattle.rules.specs.Bus.{mirror, route_through}
use Rattle.ring.proofs.Cut.{shows_off}
use Rattle.ring.proofs.through_row.Goals as goal

pub returns-then-way-d : goal.returns-then-way-d
returns-then-way-d c =
    let a = c.args in
    shows_off a.m (route_through a.m (mirror a.m a.d a.from) (mirror a.m a.d a.to)) c.if-way-d.true
