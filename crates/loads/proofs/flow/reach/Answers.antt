-- `reach` leaves a node that is seen as it is, and marks a new one.
use Rattle.std.proofs.Common.{◌<◌, arith}
use lib.ListN.{length-set}
use Rattle.loads.proofs.Network.{put_set}
use Rattle.loads.proofs.Words.{bit_one_more, bit_odd, bit_even}
use Rattle.loads.proofs.Ways.{entered_seen, entered_new}
use Rattle.loads.proofs.flow.reach.Goals as goal

pub returns-then-seen-p-eq1 : goal.returns-then-seen-p-eq1
returns-then-seen-p-eq1 c =
    let a = c.args in
    (c.requires.1, entered_seen a.seen _ a.p a.w (bit_odd a.seen a.p c.if-seen-p-eq1.true))

pub returns : goal.returns
returns c =
    let a = c.args in
    let l : a.p < 64 = omega (arith, c.requires.0) in (
      simp length-set c.requires.1,
      entered_new a.seen _ a.p a.w _ _ (bit_even a.seen a.p c.if-seen-p-eq1.false) (λ v. bit_one_more a.seen a.p v l)
          (put_set a.by.now a.p a.w (omega (arith, c.requires.0, c.requires.1))),
    )
