-- relay_fault: 27 where the relay is no element, else 28 where there is no room.
use Rattle.std.proofs.Common.{arith}
use Rattle.relay.proofs.Given.{no_relay, too_many, right_relay}
use Rattle.relay.proofs.relay_fault.Goals as goal

pub returns-then-relay-eq0 : goal.returns-then-relay-eq0
returns-then-relay-eq0 c = no_relay _ _ (λ w. let z : ⊥ = omega (arith, c.if-relay-eq0.true, w.0) in z)

pub returns-then-relay-given : goal.returns-then-relay-given
returns-then-relay-given c = no_relay _ _ (λ w. let z : ⊥ = omega (arith, c.if-relay-given.true, w.1) in z)

pub returns-then-rows_split-gt-ROWS : goal.returns-then-rows_split-gt-ROWS
returns-then-rows_split-gt-ROWS c = too_many _ _ (omega arith, omega arith) (omega (arith, c.rows_split.ensures))

pub returns : goal.returns
returns c = right_relay _ _ (omega arith, omega arith) (omega (arith, c.rows_split.ensures))
