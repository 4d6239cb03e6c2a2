-- check_file: the head's checks, then those of the entries.
use Rattle.std.proofs.Common.{arith, List, ℕ, rules}
use Rattle.rules.specs.ElementList.{file_entry}
use Rattle.rules.specs.Refusals.{Answers}
use Rattle.rules.proofs.Answers.{None, none_of}
use Rattle.table.proofs.Reasons.{handed, not_done}
use Rattle.lists.specs.Entries.{head_checks}
use Rattle.lists.proofs.Heads.{head_numbered, head_hyper, file_stopped, file_joined}
use Rattle.lists.proofs.check_file.Goals as goal

-- the head has passed
none : (f : List ℕ) → Answers (head_checks f) 0 0 → None (head_checks f)
none f a = none_of (head_checks f) 0 (head_numbered f) a

pub returns-in_err-head-clause-answers : goal.returns-in_err-head-clause-answers
returns-in_err-head-clause-answers c =
    rw (handed (record { reason = c.in_err-head.field-0.0; place = 0 }) c.from_residual.ensures.1)
    (file_stopped _ _ 0 (not_done c.in_err-head.field-0.0) c.in_err-head.ensures.answers)

pub check_entries-requires-clause-bound : goal.check_entries-requires-clause-bound
check_entries-requires-clause-bound c =
    omega (arith, c.in_ok-head.ensures.passed.hyper, head_hyper _ (none _ c.in_ok-head.ensures.answers))

pub returns-in_err-check_entries-clause-answers : goal.returns-in_err-check_entries-clause-answers
returns-in_err-check_entries-clause-answers c =
    let h = c.in_ok-head.ensures.passed in
    rw (handed c.in_err-check_entries.field-0.0 c.from_residual-in_err-check_entries.ensures.1)
    (file_joined _ _ _ (none _ c.in_ok-head.ensures.answers)
    (rw (h.entries, h.hyper) at (c.in_err-check_entries.ensures (file_entry c.args.file.now) (record { each = λ k r l p. search rules }))))

pub returns-clause-answers : goal.returns-clause-answers
returns-clause-answers c =
    let h = c.in_ok-head.ensures.passed in
    file_joined _ _ _ (none _ c.in_ok-head.ensures.answers)
    (rw (h.entries, h.hyper) at (c.in_ok-check_entries.ensures (file_entry c.args.file.now) (record { each = λ k r l p. search rules })))
