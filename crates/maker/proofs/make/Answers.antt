-- make: what is found, written as numbers.
use Rattle.std.proofs.Common.{arith, ◌≡◌, ℕ, ◌+◌, ◌*◌, List, length, ap, ◌∙◌}
use Rattle.rules.specs.TableFile.{file_table}
use Rattle.rules.specs.ElementList.{entry_numbers, in_memory, list_numbers, moves_list}
use Rattle.rules.specs.Calls.{one_ring_ask, lent}
use Rattle.table.proofs.Reasons.{handed}
use Rattle.lists.proofs.RoundTrip.{numbers_length}
use Rattle.maker.specs.Words.{flat}
use Rattle.maker.proofs.Answered.{numbers_are, made_refused, made_done}
use Rattle.maker.proofs.make.Goals as goal

-- how many numbers are wanted
wanted : (f plan : List ℕ) (e : ℕ) → let l = moves_list (file_table f) e plan in length (list_numbers l) ≡ 0 + entry_numbers * l.entries
wanted f plan e = omega (arith, numbers_length (moves_list (file_table f) e plan))

pub returns-in_err-found : goal.returns-in_err-found
returns-in_err-found c =
    let a = c.args in
    rw (handed c.in_err-found.field-0.0 c.from_residual.ensures.1)
    (made_refused (one_ring_ask a.file.now) a.plan.now a.element list_numbers a.out.now (wanted a.file.now a.plan.now a.element) _
    c.in_err-found.ensures)

pub put_numbers-requires : goal.put_numbers-requires
put_numbers-requires c =
    let F = c.in_ok-found.ensures in
    (F.ready.clear, omega (arith, F.enough, ap length F.ready.moves))

pub returns : goal.returns
returns c =
    let a = c.args in
    let F = c.in_ok-found.ensures in
    made_done (one_ring_ask a.file.now) a.plan.now a.element list_numbers a.out.now (wanted a.file.now a.plan.now a.element) F _
    (c.put_numbers.ensures
    ∙ ap (λ (xs : List ℕ). lent xs a.out.now)
    (ap (flat in_memory) F.ready.moves ∙ numbers_are (file_table a.file.now) a.element a.plan.now))
