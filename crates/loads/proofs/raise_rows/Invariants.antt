use Rattle.std.proofs.Common.{◌≡◌, ◌&&◌, ℕ, ◌<◌, leb}
use Rattle.numbers.specs.Lists.{at}
use Rattle.numbers.specs.Word.{bit}
use Rattle.loads.specs.Raised.{Settled}
use Rattle.loads.specs.Loads.{last, digit}
use Rattle.loads.specs.Line.{carried, line}
use Rattle.loads.specs.State.{Asked, State, Mended}
use Rattle.loads.proofs.raise_rows.Given as goal

-- the rows up to i are settled; `later` has the others
abbrev pub invariant-loop-i : goal.invariant-loop-i
invariant-loop-i l = record {
  later : (j : ℕ) → j < l.size.rows → bit l.later j ≡ (leb l.i j && bit l.s.parted j);
  settled : (f : ℕ → ℕ) → Asked l.size.rows l.size.sets l.size.hyper l.tail l.head l.out l.into l.sum f
      → Mended l.size.rows l.size.sets l.size.hyper l.tail l.head f l.fn.start
      → State l.size.rows l.size.sets l.size.hyper l.tail l.head f l.s
      × Settled l.i (line l.size.rows l.size.sets (at l.tail) (last l.head) l.size.hyper f)
      (carried l.size.rows (at l.tail) (last l.head) (digit l.s.top));
}
