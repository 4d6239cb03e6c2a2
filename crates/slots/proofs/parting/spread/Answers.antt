-- spread: a stretch more.
use Rattle.std.proofs.Common.{◌<◌, arith}
use Rattle.stretches.specs.Stretches.{most_stretches}
use Rattle.stretches.proofs.Stretches.{cursor_low, cursor_end, spreading_more, spreading_end}
use Rattle.slots.proofs.parting.spread.Goals as goal

pub offset_bounds-end-k : goal.offset_bounds-end-k
offset_bounds-end-k c =
    let p = c.requires.0 in
    let low : c.loop-s.k < most_stretches = cursor_low p.2 (c.loop-s.invariant p.0 p.1 p.2).cursor c.loop-s-test.true in
    omega arith

pub bounds-end-k : goal.bounds-end-k
bounds-end-k c = let p = c.requires.0 in cursor_low p.2 (c.loop-s.invariant p.0 p.1 p.2).cursor c.loop-s-test.true

pub repeat-requires : goal.repeat-requires
repeat-requires c =
    let p = c.requires.0 in
    let e = cursor_end p.2 (c.loop-s.invariant p.0 p.1 p.2).cursor c.loop-s-test.true in
    (omega (arith, e, c.from-to.ensures), omega (arith, e, c.from-to.ensures))

pub bounds-after-k : goal.bounds-after-k
bounds-after-k c = let p = c.requires.0 in cursor_low p.2 (c.loop-s.invariant p.0 p.1 p.2).cursor c.loop-s-test.true

pub loop-s-smaller : goal.loop-s-smaller
loop-s-smaller c =
    let p = c.requires.0 in
    omega (arith, cursor_end p.2 (c.loop-s.invariant p.0 p.1 p.2).cursor c.loop-s-test.true, c.from-to.ensures)

pub loop-s-preserved : goal.loop-s-preserved
loop-s-preserved c of begin t =
    spreading_more t (c.loop-s.invariant of begin t) c.loop-s-test.true c.from-k.ensures c.from-to.ensures c.repeat.ensures

pub returns : goal.returns
returns c of begin t = spreading_end t (c.loop-s.invariant of begin t) c.loop-s-test.false c.loop-s.auto.words
