-- `planner::stage_after` meets its contract.
use borrow.Author.Tests.{eq-eqb, ne_eqb}
use Rattle.planner.proofs.stage_after.Statement.{statement}
use Rattle.planner.proofs.stage_after.Tie as tie

returns : tie.Need-returns-then-end-hyper
returns c = rw (eq-eqb _ _ c.if-end-hyper.true)

returns-2 : tie.Need-returns
returns-2 c = rw (ne_eqb _ _ c.if-end-hyper.false)

pub stage_after_spec : {M : Type 1} → statement M
stage_after_spec = tie.close (tie.spec returns returns-2)
