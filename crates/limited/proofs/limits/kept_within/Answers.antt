-- kept_within: what is answered of our rows, then of the second maker's.
use Rattle.std.proofs.Common.{arith, refl}
use mathlib.Core.Bool.{true, false}
use Rattle.limited.specs.Limits.{labelled}
use Rattle.table.specs.declared.refusals.Reason.TheVariants.{OurLimit, TheirLimit}
use Rattle.table.proofs.Reasons.{handed}
use Rattle.limited.proofs.Within.{limited_small, limit_answers, ours_over, ours_within}
use Rattle.limited.proofs.limits.kept_within.Goals as goal

pub lowest_over-our-requires : goal.lowest_over-our-requires
lowest_over-our-requires c =
    let L = c.requires.0.1 in (
      limited_small L,
      omega (arith, L.elements_is, L.sound.elements_high),
      omega (arith, L.hyper_is, L.short),
      c.requires.1,
    )

pub over_at-requires : goal.over_at-requires
over_at-requires c = let L = c.requires.0.1 in omega (arith, L.elements_is, L.sound.elements_high)

pub returns-in_err-over_at : goal.returns-in_err-over_at
returns-in_err-over_at c t L =
    let a = c.args in
    rw (handed c.in_err-over_at.field-0.0 c.from_residual.ensures.1)
    (ours_over (labelled t a.label.now) a.limits.ours a.limits.theirs _
    (limit_answers L a.label.now false a.limits.ours 21 _ c.lowest_over-our.ensures OurLimit refl _ c.in_err-over_at.ensures))

pub lowest_over-their-requires : goal.lowest_over-their-requires
lowest_over-their-requires c =
    let P = c.requires in
    let L = P.0.1 in (
      limited_small L,
      omega (arith, L.elements_is, L.sound.elements_high),
      omega (arith, L.hyper_is, L.short),
      P.2,
    )

pub over_at-requires-2 : goal.over_at-requires-2
over_at-requires-2 c = let L = c.requires.0.1 in omega (arith, L.elements_is, L.sound.elements_high)

pub returns : goal.returns
returns c t L =
    let a = c.args in
    ours_within (labelled t a.label.now) a.limits.ours a.limits.theirs _ _
    (limit_answers L a.label.now false a.limits.ours 21 _ c.lowest_over-our.ensures OurLimit refl _ c.in_ok-over_at.ensures)
    (limit_answers L a.label.now true a.limits.theirs 22 _ c.lowest_over-their.ensures TheirLimit refl _ c.over_at-2.ensures)
