-- lowest_free: the first place with period 0.
use Rattle.std.proofs.Common.{rules, tests, ◌≡◌, ◌<◌}
use Rattle.std.proofs.lemmas.Iterator.{IsFirst-from_position, YieldsList-from_slice}
use Rattle.live.proofs.Seated.{first_zero}
use Rattle.live.proofs.lowest_free.Goals as goal

pub returns : goal.returns
returns c =
    first_zero c.args.period.now c.position.result c.told-period
    (IsFirst-from_position _ _ _ (λ x. x ≡ 0) (λ x. 0 < x) c.position.ensures.ran (YieldsList-from_slice c.args.period.now cc)
    (λ x q k. search (rules, tests)) (λ x q k. search (rules, tests)))
