-- check_numbers: where the size is right, the rows are checked.
use Rattle.std.proofs.Common.{ℕ, List, ◌*◌, length, arith, zero-add}
use Rattle.rules.specs.TableFile.{row_numbers, memory_with}
use Rattle.rules.specs.Refusals.{Answers, size_checks}
use Rattle.rules.proofs.Answers.{None, none_of}
use Rattle.table.proofs.Faults.{sizes_numbered, sizes_right, memory_stopped, memory_joined}
use Rattle.table.proofs.Reasons.{handed, not_done}
use Rattle.writer.proofs.memory.check_numbers.Goals as goal

-- the sizes have passed
none : (r M n : ℕ) (xs : List ℕ) → Answers (size_checks (memory_with r M n xs) (length xs) (row_numbers * n)) 0 0
    → None (size_checks (memory_with r M n xs) (length xs) (row_numbers * n))
none r M n xs a = none_of _ 0 (sizes_numbered (memory_with r M n xs) _ _) a

pub returns-in_err-size_fault : goal.returns-in_err-size_fault
returns-in_err-size_fault c =
    let r = c.in_err-size_fault.field-0.0 in
    rw (handed (record { reason = r; place = 0 }) c.from_residual.ensures.1)
    (memory_stopped _ _ _ _ _ (not_done r) (rw zero-add at c.in_err-size_fault.ensures))

pub check_row_numbers-requires : goal.check_row_numbers-requires
check_row_numbers-requires c =
    let a = c.args in
    let s = sizes_right (memory_with a.rings a.elements a.rows a.numbers.now) _ _
    (none a.rings a.elements a.rows a.numbers.now (rw zero-add at c.in_ok-size_fault.ensures)) in
    (s.3, omega (arith, s.4))

pub returns : goal.returns
returns c =
    memory_joined _ _ _ _ _ _ (none c.args.rings c.args.elements c.args.rows c.args.numbers.now (rw zero-add at c.in_ok-size_fault.ensures))
    c.check_row_numbers.ensures
