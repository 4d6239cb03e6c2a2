-- `table::marks::is_no_mark` meets its contract.
use mathlib.Core.Path.{ap}
use lib.ListN.{length}
use borrow.Author.Rules.{rules}
use Rattle.numbers.proofs.Truth.{decides_yes}
use Rattle.table.proofs.Faults.{mark_whole}
use Rattle.table.proofs.marks.is_no_mark.Statement.{statement}
use Rattle.table.proofs.marks.is_no_mark.Tie as tie

returns : tie.Need-returns-then-mark-ne3
returns c = decides_yes ((λ e. c.if-mark-ne3.true (ap length e)), (λ e. c.if-mark-ne3.true (ap length e)))

is-strange-requires : tie.Need-is_strange-requires
is-strange-requires c κs = search rules

returns-2 : tie.Need-returns
returns-2 c =
    let m = c.before.before.before.args.mark.now in
    rw (mark_whole m c.before.if-mark-ne3.false) at c.is_strange.ensures

pub is_no_mark_spec : {M : Type 1} → statement M
is_no_mark_spec = tie.close (tie.spec returns is-strange-requires returns-2)
