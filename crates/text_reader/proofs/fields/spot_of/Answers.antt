use mathlib.Core.Path.{ap₂}
use Rattle.std.proofs.Common.{refl, ap, ◌∙◌, ℕ, ◌<◌, ◌≤◌, List, length, take, arith, length-take}
use Rattle.std.proofs.lemmas.List.{get_or-take}
use Rattle.numbers.specs.Finite.{sum, lowest}
use Rattle.text_reader.specs.declared.fields.Spot.{Spot}
use Rattle.text_reader.specs.Walk.{stepped}
use Rattle.text_reader.proofs.Spots.{spot_next, spot_low, is_spot}
use Rattle.text_reader.proofs.fields.spot_of.Goals as goal

pub loop-b-init : goal.loop-b-init
unfolding sum lowest
loop-b-init c = refl

pub step-at-requires : goal.step-at-requires
step-at-requires c =
    let text : List ℕ = c.args.text.now in
    let i : ℕ = c.loop-b.b-index in
    let low = spot_low text i in
    let e = c.loop-b.invariant in
    let k : length (take c.min-end.result text) ≤ length text = omega (arith, length-take c.min-end.result text) in
    (omega (arith, ap (λ (s : Spot). s.line) e, low.0), omega (arith, ap (λ (s : Spot). s.column) e, low.1))

pub loop-b-preserved : goal.loop-b-preserved
loop-b-preserved c =
    let text : List ℕ = c.args.text.now in
    let i : ℕ = c.loop-b.b-index in
    let l : i < c.min-end.result = omega (arith, length-take c.min-end.result text) in
    c.step-at.ensures ∙ ap₂ stepped c.loop-b.invariant (get_or-take c.min-end.result text i 0 l) ∙ spot_next text i

pub returns : goal.returns
returns c =
    is_spot _ _ c.loop-b.b-index _ (omega (arith, c.min-end.ensures, length-take c.min-end.result c.args.text.now)) c.loop-b.invariant
