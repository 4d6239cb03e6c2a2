-- value_fault: what is refused of the row is told at its field.
use Rattle.rules.proofs.Answers.{answered}
use Rattle.table.proofs.Reasons.{not_done}
use Rattle.text_reader.proofs.Lines.{values_right, values_wrong}
use Rattle.text_reader.proofs.value_fault.Goals as goal

pub returns-in-Err : goal.returns-in-Err
returns-in-Err c =
    rw (c.place_of.ensures, c.blamed.ensures)
    (values_wrong _ _ _ _ c.requires.1 _ (not_done c.in-Err.reason) (rw c.in_ring.ensures at c.in-Err.ensures))

pub returns : goal.returns
returns c = answered _ (values_right _ _ _ _ c.requires.1 (rw c.in_ring.ensures at c.in_default.ensures))
