-- write: a list that passes is written where there is room.
use Rattle.std.proofs.Common.{arith, ℕ, List, length, ◌/◌, refl, ap, ◌∙◌}
use lib.Seq.{length-sets}
use Rattle.numbers.specs.Lists.{each}
use Rattle.rules.specs.ElementList.{list_header, entry_numbers, memory_list, memory_entry, in_file, file_head, list_bytes}
use Rattle.rules.specs.Refusals.{Answers, list_memory_checks}
use Rattle.rules.proofs.Answers.{None, none_of}
use Rattle.rules.proofs.Calls.{lent_headed}
use Rattle.table.proofs.Reasons.{handed}
use Rattle.lists.proofs.Heads.{Right, memory_numbered, memory_right, right_fits}
use Rattle.lists.proofs.Calls.{written_refused, written_short, written_done}
use Rattle.lists.proofs.write.Goals as goal

module _ (e h : ℕ) (xs : List ℕ) (a : Answers (list_memory_checks e h xs) 0 0) where
  -- the list has passed
  none : None (list_memory_checks e h xs)
  none = none_of (list_memory_checks e h xs) 0 (memory_numbered e h xs) a

  right : Right (memory_list e h xs)
  right = memory_right e h xs none

pub returns-in_err-check_numbers : goal.returns-in_err-check_numbers
returns-in_err-check_numbers c =
    let a = c.args in
    rw (handed c.in_err-check_numbers.field-0.0 c.from_residual.ensures.1)
    (written_refused a.element a.hyper a.numbers.now a.out.now c.in_err-check_numbers.field-0.0 c.in_err-check_numbers.ensures)

pub returns-then-out-entries : goal.returns-then-out-entries
returns-then-out-entries c =
    let a = c.args in
    rw c.from.ensures
    (written_short a.element a.hyper a.numbers.now a.out.now (none _ _ _ c.in_ok-check_numbers.ensures) c.if-out-entries.true)

pub overflow_cast-element : goal.overflow_cast-element
overflow_cast-element c = omega (arith, (right _ _ _ c.in_ok-check_numbers.ensures).element_high)

pub overflow_cast-hyper : goal.overflow_cast-hyper
overflow_cast-hyper c = omega (arith, (right _ _ _ c.in_ok-check_numbers.ensures).hyper_high)

pub put_all_bytes-requires : goal.put_all_bytes-requires
put_all_bytes-requires c =
    let a = c.args in
    let e = ap length c.put_head.ensures ∙ length-sets a.out.now 0 (file_head a.element a.hyper) in
    (omega arith, omega (arith, e), right_fits (right a.element a.hyper a.numbers.now c.in_ok-check_numbers.ensures))

pub returns : goal.returns
unfolding list_bytes
returns c =
    let a = c.args in
    let rows = each (length a.numbers.now / entry_numbers) (λ k. in_file (memory_entry a.numbers.now k)) in
    written_done _ _ _ _ _ c.in_ok-check_numbers.ensures (λ l. let z : ⊥ = omega arith in z)
    (lent_headed a.out.now _ _ (file_head a.element a.hyper) rows list_header refl (omega arith) c.put_head.ensures
    c.put_all_bytes.ensures)
