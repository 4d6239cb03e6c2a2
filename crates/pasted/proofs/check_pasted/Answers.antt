-- check_pasted: 18 by the lowest pasted row.
use Rattle.pasted.proofs.AsGiven.{pasted_found, pasted_none}
use Rattle.table.specs.Columns.{table_of}
use Rattle.pasted.proofs.check_pasted.Goals as goal

pub returns-then-row-table : goal.returns-then-row-table
returns-then-row-table c =
    rw (c.at.ensures.0, c.at.ensures.1)
    (pasted_found (table_of c.args.table.now) c.requires.few _ c.lowest_pasted-row.ensures c.if-row-table.true)

pub returns : goal.returns
returns c = pasted_none (table_of c.args.table.now) c.requires.few _ c.lowest_pasted-row.ensures c.if-row-table.false
