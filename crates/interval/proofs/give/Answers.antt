-- `give` gives one row after the other its slots.
use Rattle.std.proofs.Common.{◌≡◌, ◌/◌, ◌%◌, ◌^◌, ◌<◌, sym, ◌∙◌, length, arith}
use lib.ListN.{length-set}
use Rattle.numbers.specs.Lists.{at}
use Rattle.loads.specs.Loads.{digit}
use Rattle.loads.proofs.Network.{put_set, put_set_is}
use Rattle.interval.proofs.Product.{digit_is}
use Rattle.interval.proofs.Fill.{giving_next}
use Rattle.interval.proofs.give.Goals as goal

pub loop-i-preserved : goal.loop-i-preserved
loop-i-preserved c =
    let u = c.loop-i in
    let a = c.args in
    let f = c.requires.1 u.i c.loop-i-test.true in
    let w : at u.load u.i ≡ at a.load.now u.i = u.invariant.whole u.i (omega arith) in
    let t : at u.totals u.i ≡ at a.totals.now u.i = u.invariant.given.spare u.i (omega arith) in
    let e : a.top / 2 ^ u.i % 2 ≡ digit a.top u.i = sym (digit_is a.top u.i) in
    let k : u.i < length u.load = omega (arith, u.invariant.loads) in
    let m : u.i < length u.totals = omega (arith, u.invariant.totals) in
    record {
      loads = simp length-set u.invariant.loads;
      totals = simp length-set u.invariant.totals;
      given =
          giving_next u.i a.top _ _ _ _ _ _ u.invariant.given f.0
          (put_set_is u.load u.i _ _ k (omega (arith, w, t, e)))
          (put_set_is u.totals u.i _ _ m (omega (arith, w, e)));
      whole = λ j l. (put_set u.load u.i _ k).1 j (omega arith) ∙ u.invariant.whole j (omega arith);
    }
