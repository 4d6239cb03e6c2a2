-- The lines of the first k words are put.
use Rattle.std.proofs.Common.{[], ◌∷◌}
use Rattle.numbers.specs.Lists.{at, each}
use Rattle.decimal.specs.Puts.{PutsLines}
use Rattle.report.specs.Rendered.{word_line}
use Rattle.report.proofs.put_words.Given as goal

abbrev pub invariant-loop-k : goal.invariant-loop-k
invariant-loop-k l =
    PutsLines (each l.k (λ i. word_line l.slots i (at l.words i) ∷ [])) l.k l.initial.out l.at l.out l.next
