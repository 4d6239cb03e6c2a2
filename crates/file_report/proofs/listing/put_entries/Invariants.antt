-- The lines of the first k entries are put.
use Rattle.std.proofs.Common.{[], ◌∷◌}
use Rattle.numbers.specs.Lists.{each}
use Rattle.rules.specs.ElementList.{memory_entry}
use Rattle.rules.specs.Program.{entry}
use Rattle.decimal.specs.Puts.{PutsLines}
use Rattle.file_report.proofs.listing.put_entries.Given as goal

abbrev pub invariant-loop-k : goal.invariant-loop-k
invariant-loop-k l = PutsLines (each l.k (λ i. entry (memory_entry l.numbers i) ∷ [])) l.k l.initial.out l.at l.out l.next
