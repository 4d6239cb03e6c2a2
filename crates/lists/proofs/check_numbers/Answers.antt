-- check_numbers: 6, then 30, then the entries.
use Rattle.std.proofs.Common.{rules, refl, ℕ, List, [], ◌∷◌}
use Rattle.rules.specs.ElementList.{memory_entry, memory_list}
use Rattle.rules.specs.Refusals.{Answers, wrong_list}
use Rattle.rules.proofs.Answers.{None, none_of}
use Rattle.table.proofs.Reasons.{handed, not_done}
use Rattle.lists.proofs.Heads.{bounds_numbered, bounds_hyper, memory_part, memory_bounds, memory_entries}
use Rattle.lists.proofs.check_numbers.Goals as goal

-- 30 does not apply
none : (e h : ℕ) (xs : List ℕ) → Answers (wrong_list (memory_list e h xs) ∷ []) 0 0 → None (wrong_list (memory_list e h xs) ∷ [])
none e h xs a = none_of _ 0 (bounds_numbered (memory_list e h xs)) a

pub returns-then-numbers-ne0 : goal.returns-then-numbers-ne0
returns-then-numbers-ne0 c = rw c.from.ensures (memory_part _ _ _ _ _ c.if-numbers-ne0.true (refl, refl))

pub returns-in_err-bounds_fault : goal.returns-in_err-bounds_fault
returns-in_err-bounds_fault c =
    rw (handed (record { reason = c.in_err-bounds_fault.field-0.0; place = 0 }) c.from_residual.ensures.1)
    (memory_bounds _ _ _ c.if-numbers-ne0.false _ 0 (not_done c.in_err-bounds_fault.field-0.0) c.in_err-bounds_fault.ensures)

pub check_entries-requires-clause-bound : goal.check_entries-requires-clause-bound
check_entries-requires-clause-bound c =
    let a = c.args in
    bounds_hyper (memory_list a.element a.hyper a.numbers.now) (none a.element a.hyper a.numbers.now c.in_ok-bounds_fault.ensures)

pub returns : goal.returns
returns c =
    let a = c.args in
    memory_entries _ _ _ c.if-numbers-ne0.false _ _ (none a.element a.hyper a.numbers.now c.in_ok-bounds_fault.ensures)
    (c.check_entries.ensures (memory_entry a.numbers.now) (record { each = λ k r l p. search rules }))
