use Rattle.std.proofs.Common.{◌≡◌, ℕ, ◌*◌, ◌/◌, ◌%◌, ◌<◌, ltb, length}
use Rattle.numbers.specs.Lists.{at}
use Rattle.numbers.specs.Word.{word}
use Rattle.rules.specs.Bounds.{max_rows}
use Rattle.interval.proofs.part_shares.Given as goal

-- the shares of the rows up to i are parted
abbrev pub invariant-loop-i : goal.invariant-loop-i
invariant-loop-i l = record {
  wholes : length l.whole ≡ max_rows;
  parts : length l.part ≡ max_rows;
  shares : (j : ℕ) → j < l.i → (at l.whole j ≡ at l.rate j * l.slots / l.h) × (at l.part j ≡ at l.rate j * l.slots % l.h);
  parted : l.parted ≡ word l.i (λ j. ltb 0 (at l.rate j * l.slots % l.h));
}
