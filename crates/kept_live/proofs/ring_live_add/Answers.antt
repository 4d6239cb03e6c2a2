-- ring_live_add: number and place are small.
use Rattle.std.proofs.Common.{ap₂, ◌∙◌}
use Rattle.rules.specs.Calls.{c_answer}
use Rattle.kept_live.proofs.Small.{add_small, taken_told}
use Rattle.kept_live.proofs.ring_live_add.Goals as goal

pub told-requires : goal.told-requires
told-requires c =
    let r = c.add-taken.result in
    rw (c.number.ensures, c.unwrap_or.ensures ∙ taken_told r) (add_small r c.add-taken.ensures)

pub returns : goal.returns
returns c =
    let r = c.add-taken.result in
    (r, c.add-taken.ensures, c.told.ensures ∙ ap₂ c_answer c.number.ensures (c.unwrap_or.ensures ∙ taken_told r))
