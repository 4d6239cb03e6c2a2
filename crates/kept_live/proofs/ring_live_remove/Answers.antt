-- ring_live_remove: its number is small.
use Rattle.std.proofs.Common.{ℕ, ap, ◌∙◌, arith}
use Rattle.rules.specs.Calls.{c_answer}
use Rattle.kept_live.proofs.Small.{remove_small}
use Rattle.kept_live.proofs.ring_live_remove.Goals as goal

pub told-requires : goal.told-requires
told-requires c = (rw c.number.ensures (remove_small c.remove-removed.ensures), omega arith)

pub returns : goal.returns
returns c =
    (c.remove-removed.result, c.remove-removed.ensures, c.told.ensures ∙ ap (λ (n : ℕ). c_answer n 0) c.number.ensures)
