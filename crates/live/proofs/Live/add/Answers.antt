-- add: the tests, in the order of the checks.
use Rattle.std.proofs.Common.{rules, ◌≡◌, Bool, ◌<◌, sym, ap, ◌∙◌, inl}
use Rattle.numbers.specs.Finite.{any}
use Rattle.numbers.specs.Lists.{at}
use Rattle.numbers.proofs.Truth.{denied, granted, of_true, of_false}
use Rattle.rules.specs.Bounds.{max_rows}
use Rattle.rules.specs.Refusals.{Answers, faults}
use Rattle.rules.specs.Live.{free, repeated}
use Rattle.rules.proofs.Answers.{None, none_of}
use Rattle.table.specs.declared.Row.{Row}
use Rattle.table.specs.declared.refusals.Reason.TheVariants.{NoFreePlace}
use Rattle.table.specs.Rows.{single}
use Rattle.table.proofs.Faults.{faults_numbered, row_sound}
use Rattle.table.proofs.Reasons.{handed}
use Rattle.live.specs.Seats.{equal}
use Rattle.live.specs.declared.Live.{Live}
use Rattle.live.specs.declared.Entry.{Entry}
use Rattle.live.specs.State.{live_of, entry_of, row_of, NewSeat, PutIn}
use Rattle.live.specs.Answers.{Sized}
use Rattle.live.proofs.Answering.{add_off, add_fault, add_repeated, add_full, add_long, add_done, put_long, put_short}
use Rattle.live.proofs.Live.add.Goals as goal

module _ (l : Live) (e : Entry) (row : Row) (is : row ≡ row_of e) where
  -- 7 to 9 have found nothing
  clean : Answers (faults (single l.elements 1 row) 0) 0 0 → None (faults (single l.elements 1 (row_of e)) 0)
  clean a =
      let t = single l.elements 1 (row_of e) in
      none_of (faults t 0) 0 (faults_numbered t 0) (rw is at a)

  fits : Answers (faults (single l.elements 1 row) 0) 0 0 → NewSeat l.elements e
  fits a = inl (row_sound (single l.elements 1 (row_of e)) 0 (clean a))

  -- the row that is sought is the entry's
  sought : {b : Bool} → b ≡ any max_rows (equal (at l.period) (at l.first) (at l.second) row) → b ≡ repeated (live_of l) (entry_of e)
  unfolding repeated
  sought h = h ∙ ap (λ (r : Row). any max_rows (equal (at l.period) (at l.first) (at l.second) r)) is

pub returns-then-not-is_in_order : goal.returns-then-not-is_in_order
returns-then-not-is_in_order c =
    let Z : Sized c.args.self.now = search rules in
    rw c.into.ensures (add_off c.args.self.now c.args.entry Z (denied c.is_in_order.ensures c.if-not-is_in_order.true))

pub returns-in_err-row_fault : goal.returns-in_err-row_fault
returns-in_err-row_fault c =
    let r = c.in_err-row_fault.field-0.0 in
    let Z : Sized c.args.self.now = search rules in
    rw (handed (record { reason = r; place = 0 }) c.from_residual.ensures.1)
    (add_fault c.args.self.now c.args.entry Z (granted c.is_in_order.ensures c.if-not-is_in_order.false) r
    (rw c.clockwise-row.ensures at c.in_err-row_fault.ensures))

pub returns-then-has_row : goal.returns-then-has_row
returns-then-has_row c =
    let l = c.args.self.now in
    let e = c.args.entry in
    let Z : Sized l = search rules in
    rw c.into-then-has_row.ensures
    (add_repeated l e Z (granted c.is_in_order.ensures c.if-not-is_in_order.false)
    (clean l e _ c.clockwise-row.ensures c.in_ok-row_fault.ensures)
    (of_true (sym (sought l e _ c.clockwise-row.ensures c.has_row.ensures) ∙ c.if-has_row.true)))

pub returns-in_err-k : goal.returns-in_err-k
returns-in_err-k c =
    let l = c.args.self.now in
    let e = c.args.entry in
    let Z : Sized l = search rules in
    let is = c.clockwise-row.ensures in
    let full = rw c.in_err-k.ensures.ok_part at c.lowest_free.ensures in
    let value = rw c.in_err-k.ensures.ok_part at c.in_err-k.ensures.value in
    let r : c.in_err-k.field-0.0 ≡ NoFreePlace = cc in
    rw (handed (record { reason = c.in_err-k.field-0.0; place = 0 }) c.from_residual-in_err-k.ensures.1, r)
    (add_full l e Z (granted c.is_in_order.ensures c.if-not-is_in_order.false) (clean l e _ is c.in_ok-row_fault.ensures)
    (of_false (sym (sought l e _ is c.has_row.ensures) ∙ c.if-has_row.false)) full)

pub put-after-requires : goal.put-after-requires
put-after-requires c =
    let k = rw c.in_ok-k.ensures.ok_part at c.lowest_free.ensures in (
      k.1,
      granted c.is_in_order.ensures c.if-not-is_in_order.false,
      fits c.args.self.now c.args.entry _ c.clockwise-row.ensures c.in_ok-row_fault.ensures,
    )

pub returns-then-after-eq0 : goal.returns-then-after-eq0
returns-then-after-eq0 c =
    let l = c.args.self.now in
    let e = c.args.entry in
    let Z : Sized l = search rules in
    let is = c.clockwise-row.ensures in
    let k = rw c.in_ok-k.ensures.ok_part at c.lowest_free.ensures in
    let F : free (live_of l) < max_rows = rw k.0 at k.1 in
    rw c.into-then-after-eq0.ensures
    (add_long l e Z (granted c.is_in_order.ensures c.if-not-is_in_order.false) (clean l e _ is c.in_ok-row_fault.ensures)
    (of_false (sym (sought l e _ is c.has_row.ensures) ∙ c.if-has_row.false)) F
    (put_long Z F (rw k.0 at c.put-after.ensures) c.if-after-eq0.true))

pub returns : goal.returns
returns c =
    let l = c.args.self.now in
    let e = c.args.entry in
    let Z : Sized l = search rules in
    let is = c.clockwise-row.ensures in
    let k = rw c.in_ok-k.ensures.ok_part at c.lowest_free.ensures in
    let F : free (live_of l) < max_rows = rw k.0 at k.1 in
    let P : PutIn l (free (live_of l)) e c.put-after.result = rw k.0 at c.put-after.ensures in
    rw k.0
    (add_done l e Z (granted c.is_in_order.ensures c.if-not-is_in_order.false) (clean l e _ is c.in_ok-row_fault.ensures)
    (of_false (sym (sought l e _ is c.has_row.ensures) ∙ c.if-has_row.false)) F (put_short Z F P c.if-after-eq0.false) P)
