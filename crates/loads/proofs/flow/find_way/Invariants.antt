use Rattle.std.proofs.Common.{◌≡◌, Bool, true, not, ℕ, ◌≤◌, length}
use Rattle.numbers.specs.Finite.{count}
use Rattle.numbers.specs.Lists.{at}
use Rattle.numbers.specs.Word.{bit}
use Rattle.loads.specs.Network.{nodes_most, Net, Circulation}
use Rattle.loads.specs.Way.{WaysFrom, Done, Wired, Narrow, Shown}
use Rattle.loads.proofs.flow.find_way.Given as goal

-- there is a way to each node that is seen, and those in `done` are gone on from
abbrev pub invariant-loop-seen : goal.invariant-loop-seen
invariant-loop-seen l = record {
  size : length l.by ≡ nodes_most;
  some : (v : ℕ) → bit l.done v ≡ true → bit l.seen v ≡ true;
  on_line : (n K : ℕ) → Wired n K (at l.tail) (at l.head) (at l.out) (at l.into) → Narrow K l.arcs → l.s ≤ K
      → (v : ℕ) → bit l.seen v ≡ true → v ≤ K;
  reached : (n K : ℕ) (G : Net) (may : ℕ → Bool) (x : ℕ → ℕ) → Wired n K (at l.tail) (at l.head) (at l.out) (at l.into)
      → Narrow K l.arcs → l.s ≤ K → Shown n K G may x (at l.tail) (at l.head) l.arcs → Circulation G x
      → WaysFrom n G may x l.s l.seen (at l.by) × Done G may x l.seen l.done;
}

abbrev pub decreases-loop-seen : goal.decreases-loop-seen
decreases-loop-seen l = count 64 (λ v. not (bit l.done v))
