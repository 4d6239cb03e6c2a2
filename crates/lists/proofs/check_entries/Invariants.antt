-- check_entries: the entries before entry `k` pass, and leave ranks from `least` on to those after them.
use Rattle.std.proofs.Common.{◌≤◌, ◌*◌, ℕ}
use Rattle.rules.specs.ElementList.{Entry}
use Rattle.lists.specs.Entries.{Gives, told}
use Rattle.lists.proofs.Entries.{Checked}
use Rattle.lists.proofs.check_entries.Given as goal

abbrev pub invariant-loop-k : goal.invariant-loop-k
invariant-loop-k g l = record {
  few : l.k ≤ l.least;
  within : l.least ≤ 2 * l.hyper;
  checked : (f : ℕ → Entry) → Gives (goal.F-post g l.entry) l.entries f → Checked (told 0 l.hyper f) l.k l.least;
}
