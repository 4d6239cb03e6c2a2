-- is_of: by the party.
use Rattle.rules.specs.Parties.{owns}
use Rattle.limited.proofs.limits.is_of.Statement.{statement}
use Rattle.limited.proofs.limits.is_of.Tie as tie

returns : tie.Need-returns-then-theirs
unfolding owns
returns c = simp c.if-theirs.true

returns-2 : tie.Need-returns-else-theirs
unfolding owns
returns-2 c = simp c.if-theirs.false

pub is_of_spec : {M : Type 1} → statement M
is_of_spec = tie.close (tie.spec returns returns-2)
