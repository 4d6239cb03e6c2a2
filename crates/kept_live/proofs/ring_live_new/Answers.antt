-- ring_live_new: its number is small.
use Rattle.std.proofs.Common.{ℕ, ap, ◌∙◌, arith}
use Rattle.std.specs.Result.{result_unwrap_or}
use Rattle.rules.specs.Calls.{c_answer}
use Rattle.live.specs.declared.Live.{Live}
use Rattle.kept_live.proofs.Small.{new_small, made_told}
use Rattle.kept_live.proofs.ring_live_new.Goals as goal

pub told-requires : goal.told-requires
told-requires c = (rw c.number.ensures (new_small c.new-made.ensures), omega arith)

pub returns : goal.returns
returns c =
    let r = c.new-made.result in (
      r,
      c.new-made.ensures,
      c.unwrap_or.ensures ∙ ap (λ (l : Live). result_unwrap_or r l) c.nothing.ensures ∙ made_told r,
      c.told.ensures ∙ ap (λ (n : ℕ). c_answer n 0) c.number.ensures,
    )
