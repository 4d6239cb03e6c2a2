-- put_numbers: the moves of the word of slot `slot`, what it receives before what it sends.
use Rattle.std.proofs.Common.{arith, ◌≡◌, refl}
use Rattle.numbers.proofs.Lists.{filled_start}
use Rattle.rules.specs.ElementList.{entry_numbers, in_memory}
use Rattle.rules.proofs.Calls.{filled_lent}
use Rattle.maker.proofs.Words.{written_start, written_room, written_next}
use Rattle.maker.proofs.moves.Picks.put_numbers.Goals as goal

pub loop-slot-init : goal.loop-slot-init
loop-slot-init c = written_start in_memory c.args.self.into c.args.self.from c.args.plan.now (filled_start c.args.out.now)

pub put_number-n-requires : goal.put_number-n-requires
put_number-n-requires c =
    let l = c.loop-slot-test.true in
    let W = c.loop-slot.invariant in (
      c.requires.0.each.into c.loop-slot.slot l,
      omega (arith, c.requires.0.short, l),
      omega (arith, written_room W c.args.self.hyper l, W.filled.same, c.requires.1),
    )

pub put_number-n-requires-in-loop-slot : goal.put_number-n-requires-in-loop-slot
put_number-n-requires-in-loop-slot c =
    let l = c.loop-slot-test.true in
    let W = c.loop-slot.invariant in (
      c.requires.0.each.from c.loop-slot.slot l,
      omega (arith, c.requires.0.short, l),
      omega (arith, written_room W c.args.self.hyper l, W.filled.same, c.put_number-n.ensures.count, c.requires.1),
    )

pub loop-slot-preserved : goal.loop-slot-preserved
loop-slot-preserved c =
    let W = c.loop-slot.invariant in
    let P = c.put_number-n.ensures in
    let Q = c.put_number-n-in-loop-slot.ensures in
    let r = written_room W c.args.self.hyper c.loop-slot-test.true in
    written_next W entry_numbers (λ x. refl) _ P (omega (arith, P.count)) Q (omega (arith, Q.count))
    (omega (arith, r, P.count, Q.count, c.requires.1))

pub returns : goal.returns
returns c =
    let all : c.loop-slot.slot ≡ c.args.self.hyper = omega arith in
    rw all at (filled_lent c.loop-slot.invariant.filled)
