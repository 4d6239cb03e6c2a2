-- read: a file that passes is read where there is room.
use Rattle.std.proofs.Common.{arith, List, ℕ}
use Rattle.rules.specs.ElementList.{list_numbers}
use Rattle.rules.specs.Refusals.{Answers, list_file_checks}
use Rattle.rules.proofs.Answers.{None, none_of}
use Rattle.table.proofs.Reasons.{handed}
use Rattle.lists.proofs.Heads.{ListPassed, file_numbered, file_head_lem, head_passed}
use Rattle.lists.proofs.Calls.{read_refused, read_short, read_done}
use Rattle.lists.proofs.read.Goals as goal

-- the file has passed
none : (f : List ℕ) → Answers (list_file_checks f) 0 0 → None (list_file_checks f)
none f a = none_of (list_file_checks f) 0 (file_numbered f) a

held : (f : List ℕ) → Answers (list_file_checks f) 0 0 → ListPassed f
held f a = head_passed f (file_head_lem f (none f a))

pub returns-in_err-head : goal.returns-in_err-head
returns-in_err-head c =
    rw (handed c.in_err-head.field-0.0 c.from_residual.ensures.1)
    (read_refused c.args.file.now c.args.out.now c.in_err-head.field-0.0 c.in_err-head.ensures.answers)

pub returns-then-out-head : goal.returns-then-out-head
returns-then-out-head c =
    let e = c.in_ok-head.ensures in
    rw c.from.ensures
    (read_short c.args.file.now c.args.out.now (none _ e.answers) (omega (arith, c.if-out-head.true, e.passed.entries)))

pub put_all_numbers-requires : goal.put_all_numbers-requires
put_all_numbers-requires c =
    let e = c.in_ok-head.ensures in
    (omega (arith, e.passed.entries, (held _ e.answers).size), omega (arith, c.if-out-head.false))

pub returns : goal.returns
unfolding list_numbers
returns c =
    let e = c.in_ok-head.ensures in
    read_done _ _ _ _ e.answers e.passed (λ l. let y : ⊥ = omega (arith, c.if-out-head.false, e.passed.entries) in y)
    (rw e.passed.entries at c.put_all_numbers.ensures)
