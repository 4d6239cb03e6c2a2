-- make_file: what is found, written as a file.
use Rattle.std.proofs.Common.{arith, ◌≡◌, ℕ, ◌+◌, ◌*◌, List, length, refl, ap, ◌∙◌}
use lib.Seq.{length-sets}
use Rattle.rules.specs.TableFile.{file_table}
use Rattle.rules.specs.Loads.{hyperperiod}
use Rattle.rules.specs.ElementList.{list_header, entry_size, in_file, file_head, element_moves, list_bytes, moves_list}
use Rattle.rules.specs.Calls.{one_ring_ask, lent}
use Rattle.rules.proofs.Calls.{lent_headed}
use Rattle.table.proofs.Reasons.{handed}
use Rattle.lists.proofs.RoundTrip.{bytes_length}
use Rattle.maker.specs.Words.{flat}
use Rattle.maker.proofs.Answered.{bytes_are, made_refused, made_done}
use Rattle.maker.proofs.make_file.Goals as goal

-- how many bytes are wanted
wanted : (f plan : List ℕ) (e : ℕ) → let l = moves_list (file_table f) e plan in length (list_bytes l) ≡ list_header + entry_size * l.entries
wanted f plan e = omega (arith, bytes_length (moves_list (file_table f) e plan))

pub returns-in_err-found : goal.returns-in_err-found
returns-in_err-found c =
    let a = c.args in
    rw (handed c.in_err-found.field-0.0 c.from_residual.ensures.1)
    (made_refused (one_ring_ask a.file.now) a.plan.now a.element list_bytes a.out.now (wanted a.file.now a.plan.now a.element) _
    c.in_err-found.ensures)

pub overflow_cast-element : goal.overflow_cast-element
overflow_cast-element c = omega (arith, c.in_ok-found.ensures.ready.element_small)

pub overflow_cast-found : goal.overflow_cast-found
overflow_cast-found c = omega (arith, c.in_ok-found.ensures.ready.clear.short)

pub put_head-requires : goal.put_head-requires
put_head-requires c = omega (arith, c.in_ok-found.ensures.enough)

pub put_bytes-requires : goal.put_bytes-requires
put_bytes-requires c =
    let F = c.in_ok-found.ensures in
    let h = ap length c.put_head.ensures ∙ length-sets c.args.out.now 0 (file_head c.args.element c.in_ok-found.found.picks.hyper) in
    (F.ready.clear, omega (arith, F.enough, ap length F.ready.moves, h))

pub returns : goal.returns
returns c =
    let a = c.args in
    let t = file_table a.file.now in
    let F = c.in_ok-found.ensures in
    let R = F.ready in
    made_done (one_ring_ask a.file.now) a.plan.now a.element list_bytes a.out.now (wanted a.file.now a.plan.now a.element) F _
    (lent_headed a.out.now _ _ (file_head a.element (hyperperiod t)) (flat in_file (element_moves t a.element a.plan.now))
    list_header refl (omega (arith, F.enough)) (rw R.hyper at c.put_head.ensures) (rw R.moves at c.put_bytes.ensures)
    ∙ ap (λ (xs : List ℕ). lent xs a.out.now) (bytes_are t a.element a.plan.now))
