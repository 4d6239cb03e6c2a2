-- put: the entry's place passes the checks, so that denominator and sums can be worked out.
use Rattle.std.proofs.Common.{rules, [], refl, arith}
use Rattle.rules.specs.Live.{sum_over}
use Rattle.live.specs.Answers.{Sized}
use Rattle.live.proofs.State.{put_passing, passing_periods, capped_small}
use Rattle.live.proofs.Live.put.Goals as goal

pub denominator_of-d-requires : goal.denominator_of-d-requires
denominator_of-d-requires c =
    let Z : Sized c.args.self.now = search rules in
    passing_periods _ (put_passing c.args.self.now c.args.k c.args.entry Z c.requires.0 c.requires.1.rows c.requires.2)

pub sums_of-sums-requires : goal.sums_of-sums-requires
sums_of-sums-requires c =
    let Z : Sized c.args.self.now = search rules in (
      omega (arith, capped_small c.denominator_of-d.ensures, c.requires.1.short),
      put_passing c.args.self.now c.args.k c.args.entry Z c.requires.0 c.requires.1.rows c.requires.2,
    )

pub returns : goal.returns
unfolding sum_over
returns c = record {
  elements = refl;
  cost = refl;
  period = refl;
  first = refl;
  second = refl;
  label = refl;
  denominator = c.denominator_of-d.ensures;
  sums = c.sums_of-sums.ensures.1 [];
  size = c.sums_of-sums.ensures.0;
}
