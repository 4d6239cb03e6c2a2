-- list_sets: the first loop fills in the rows by their ends, the second keeps `Walked`.
use Rattle.std.proofs.Common.{◌≡◌}
use Rattle.numbers.specs.Lists.{at}
use Rattle.sets.specs.Walk.{line_size}
use Rattle.sets.proofs.List.{across_word}
use Rattle.sets.proofs.Loops.{Filling, Walked}
use Rattle.sets.proofs.list_sets.Given as goal

abbrev pub invariant-loop-i : goal.invariant-loop-i
invariant-loop-i l = Filling line_size l.i (at l.first) l.starts × Filling line_size l.i (at l.second) l.ends

abbrev pub invariant-loop-e : goal.invariant-loop-e
invariant-loop-e l =
    Walked l.rows (at l.first) (at l.second) l.e l.initial.words l.started l.count l.words
    × (l.across ≡ across_word l.rows (at l.first) (at l.second) l.e)
