-- `way_at` meets its contract: with one ring every direction is 0.
use mathlib.Core.Path.{sym}
use borrow.Author.Rules.{rules}
use Rattle.table.proofs.columns.way_at.Statement.{statement}
use Rattle.table.proofs.columns.way_at.Tie as tie

returns : tie.Need-returns-then-rings-lt-RINGS
returns c = sym (c.before.requires.1 c.if-rings-lt-RINGS.true)

end-at-requires : tie.Need-end_at-requires
end-at-requires c κs = search rules

returns-2 : tie.Need-returns
returns-2 c = search rules

pub way_at_spec : {M : Type 1} → statement M
way_at_spec = tie.close (tie.spec returns end-at-requires returns-2)
