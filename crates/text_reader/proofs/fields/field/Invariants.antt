-- Field k comes as many fields after the one found as are still to be passed.
use Rattle.std.proofs.Common.{ℕ, ◌-◌}
use Rattle.grammar.specs.TableText.{part}
use Rattle.text_reader.proofs.LineFields.{Walked}
use Rattle.text_reader.proofs.fields.field.Given as goal

abbrev pub invariant-loop : goal.invariant-loop
invariant-loop l = (from : ℕ) → Walked (part from l.line) l.k (l.k - l.counter) l.found
