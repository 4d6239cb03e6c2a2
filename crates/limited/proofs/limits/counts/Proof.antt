-- counts: both tests in turn.
use mathlib.Core.Path.{sym, ◌∙◌}
use borrow.Author.Rules.{rules}
use Rattle.numbers.specs.Word.{bit}
use Rattle.limited.proofs.limits.counts.Statement.{statement}
use Rattle.limited.proofs.limits.counts.Tie as tie

is-of-requires : tie.Need-is_of-requires
is-of-requires c κs = search rules

cast-result : tie.Need-overflow_cast-result
cast-result c = search rules

shr-result : tie.Need-overflow_shr-result
shr-result c = search rules

returns : tie.Need-returns-then-is_of
unfolding bit
returns c = simp (sym c.is_of.ensures ∙ c.if-is_of.true)

returns-2 : tie.Need-returns-else-is_of
returns-2 c = simp (c.if-is_of.false, sym c.is_of.ensures ∙ c.if-is_of.false)

pub counts_spec : {M : Type 1} → statement M
counts_spec = tie.close (tie.spec is-of-requires cast-result shr-result returns returns-2)
