-- check_version: where the version is known and the rows have no fault, labels are looked for.
use Rattle.std.proofs.Common.{ℕ, List, arith}
use Rattle.rules.specs.Refusals.{Answers, memory_checks}
use Rattle.rules.proofs.Answers.{None, none_of}
use Rattle.table.proofs.Faults.{memory_numbered, memory_sizes, version_unknown, version_stopped, version_joined}
use Rattle.table.proofs.Reasons.{handed, not_done}
use Rattle.writer.proofs.memory.check_version.Goals as goal

-- 4 to 9 have passed
none : (r M n : ℕ) (xs : List ℕ) → Answers (memory_checks r M n xs) 0 0 → None (memory_checks r M n xs)
none r M n xs a = none_of _ _ (memory_numbered r M n xs) a

pub returns-then-is_unknown : goal.returns-then-is_unknown
returns-then-is_unknown c =
    rw c.into.ensures (version_unknown _ _ _ _ _ (c.is_unknown.ensures.holds c.if-is_unknown.true))

pub returns-in_err-check_numbers : goal.returns-in_err-check_numbers
returns-in_err-check_numbers c =
    let r = c.in_err-check_numbers.field-0.0 in
    rw (handed r c.from_residual.ensures.1)
    (version_stopped _ _ _ _ _ (c.is_unknown.ensures.fails c.if-is_unknown.false) _ _ (not_done r.reason) c.in_err-check_numbers.ensures)

pub check_labels-requires : goal.check_labels-requires
check_labels-requires c =
    let s = memory_sizes _ _ _ _ (none _ _ _ _ c.in_ok-check_numbers.ensures) in
    (s.0, omega (arith, s.1))

pub returns : goal.returns
returns c =
    version_joined _ _ _ _ _ (c.is_unknown.ensures.fails c.if-is_unknown.false) _ _ (none _ _ _ _ c.in_ok-check_numbers.ensures)
    (c.check_labels.ensures c.args.elements)
