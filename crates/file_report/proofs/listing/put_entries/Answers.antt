use Rattle.std.proofs.Common.{◌≡◌, [], ◌∷◌, refl, arith}
use Rattle.rules.specs.ElementList.{memory_entry}
use Rattle.rules.specs.Program.{entry}
use Rattle.decimal.proofs.Text.{lines_none, lines_next}
use Rattle.file_report.proofs.listing.put_entries.Goals as goal

pub loop-k-init : goal.loop-k-init
loop-k-init c = lines_none (λ i. entry (memory_entry c.args.numbers.now i) ∷ []) _ _

pub loop-k-preserved : goal.loop-k-preserved
loop-k-preserved c =
    lines_next (λ i. entry (memory_entry c.args.numbers.now i) ∷ []) c.loop-k.k c.loop-k.invariant _ refl c.put_entry-next.ensures

pub returns : goal.returns
returns c =
    let e : c.loop-k.k ≡ c.args.entries = omega arith in
    rw e at c.loop-k.invariant
