use Rattle.std.proofs.Common.{◌≡◌, ltb}
use Rattle.numbers.specs.Lists.{at}
use Rattle.numbers.specs.Word.{word}
use Rattle.interval.proofs.fold.upper_rows.Given as goal

-- the word of the rows up to i
abbrev pub invariant-loop-i : goal.invariant-loop-i
invariant-loop-i l = l.upper ≡ word l.i (λ j. ltb l.bound (at l.first j))
