-- `take_rows` takes one row after the other: `Tried` says what its loop keeps.
use Rattle.std.proofs.Common.{◌≡◌, arith}
use Rattle.loads.proofs.Words.{bit_one_more, fewer}
use Rattle.interval.proofs.Filling.{row_span}
use Rattle.interval.proofs.Taking.{taken_full, taken_up, tried_start, tried_row, tried_new, tried_to, tried_next, tried_end}
use Rattle.interval.proofs.choice.take_rows.Goals as goal
use Rattle.interval.proofs.choice.take_rows.Goals.{then-has_room, else-has_room}

pub loop-done-init : goal.loop-done-init
loop-done-init c = record { size = c.requires.1; tried = λ n K f S H P U s. tried_start _ _ _ _ _ _ S P _ U _ s }

pub has_room-requires : goal.has_room-requires
has_room-requires c =
    let q = c.requires.0 in
    let i = c.pick-i.result in
    let e = c.pick-i.ensures in
    let here = (tried_row _ _ _ _ _ _ _ _ _ _ (c.loop-done.invariant.tried _ _ _ q.3 q.4 q.5 q.6 q.7) i e.1 e.2).0 in
    (row_span c.args.tail.now c.args.head.now q.3 i here (q.4 i here)).1

pub lower-requires : goal.lower-requires
lower-requires c =
    let q = c.requires.0 in
    let i = c.pick-i.result in
    let e = c.pick-i.ensures in
    let here = (tried_row _ _ _ _ _ _ _ _ _ _ (c.loop-done.invariant.tried _ _ _ q.3 q.4 q.5 q.6 q.7) i e.1 e.2).0 in
    let r = row_span c.args.tail.now c.args.head.now q.3 i here (q.4 i here) in
    (r.0, r.1, c.loop-done.invariant.size)

pub loop-done-smaller : goal.loop-done-smaller
loop-done-smaller c =
    let q = c.requires.0 in
    let u = c.loop-done in
    let i = c.pick-i.result in
    let e = c.pick-i.ensures in
    fewer u.done _ i e.0 (tried_new _ _ _ _ _ _ _ _ _ _ (u.invariant.tried _ _ _ q.3 q.4 q.5 q.6 q.7) i e.1 e.2)
    (λ v. bit_one_more u.done i v e.0)

pub loop-done-preserved : goal.loop-done-preserved
loop-done-preserved c =
    let u = c.loop-done in
    let i = c.pick-i.result in
    let e = c.pick-i.ensures in
    let a = c.args in
    elim c.if-has_room.branch [
      | then-has_room w ↦ rw (w.left-is, w.top-is)
          (record {
            size = w.lower.ensures.0;
            tried = λ n K f S H P U s.
                let q = u.invariant.tried n K f S H P U s in
                let r = tried_row _ _ _ _ _ _ S P _ U q i e.1 e.2 in
                tried_next _ _ _ _ _ _ S P _ U q i e.1 e.2 _ _ _ (λ j. bit_one_more u.done i j e.0)
                (taken_up _ _ _ _ _ _ S P i u.top _ r.0 (tried_to _ _ _ _ _ _ S P _ U q i e.1 e.2) _ _ _
                (row_span a.tail.now a.head.now S i r.0 (H i r.0)).3 r.1 (rw w.if-has_room.true at c.has_room.ensures)
                (λ j. bit_one_more u.top i j e.0) w.lower.ensures.1);
          })
      | else-has_room w ↦ rw (w.left-is, w.top-is)
          (record {
            size = u.invariant.size;
            tried = λ n K f S H P U s.
                let q = u.invariant.tried n K f S H P U s in
                let r = tried_row _ _ _ _ _ _ S P _ U q i e.1 e.2 in
                tried_next _ _ _ _ _ _ S P _ U q i e.1 e.2 _ _ _ (λ j. bit_one_more u.done i j e.0)
                (taken_full _ _ _ _ _ _ S P i u.top _ r.0 (tried_to _ _ _ _ _ _ S P _ U q i e.1 e.2) _
                (row_span a.tail.now a.head.now S i r.0 (H i r.0)).3 (rw w.if-has_room.false at c.has_room.ensures));
          })
    ]

pub returns : goal.returns
returns c =
    let u = c.loop-done in
    let e : u.done ≡ c.args.rows = omega arith in
    (u.invariant.size, λ n K f S H P U s. tried_end _ _ _ _ _ _ S P _ U (u.invariant.tried n K f S H P U s) e)
