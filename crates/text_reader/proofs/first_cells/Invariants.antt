-- The fields passed are numbers, and `value` has them.
use Rattle.grammar.specs.TableText.{part}
use Rattle.text_reader.proofs.Lines.{Celled}
use Rattle.text_reader.proofs.first_cells.Given as goal

abbrev pub invariant-loop-k : goal.invariant-loop-k
invariant-loop-k l = Celled (part l.from l.line) l.k l.value
