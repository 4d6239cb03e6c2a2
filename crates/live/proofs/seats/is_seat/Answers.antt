-- is_seat: a place that isn't free is right exactly if its row has no fault.
use Rattle.live.proofs.Seated.{fault_decided}
use Rattle.live.proofs.seats.is_seat.Goals as goal

pub returns : goal.returns
returns c = rw c.is_ok.ensures.value (fault_decided _ _ c.row_fault.result (c.is_free.ensures.fails c.if-is_free.false) c.row_fault.ensures)
