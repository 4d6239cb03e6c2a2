-- find_for: what is found, where there is room for it.
use Rattle.std.proofs.Common.{arith, ℕ, ◌+◌, ◌*◌, ap}
use native.Mathlib.Nat.{mul-le-mul}
use Rattle.rules.specs.Calls.{one_ring_ask}
use Rattle.table.proofs.Reasons.{handed}
use Rattle.maker.proofs.Finding.{judged_numbered}
use Rattle.maker.proofs.Answered.{fits_refused, fits_short, fits_all}
use Rattle.maker.proofs.find_for.Goals as goal

pub returns-in_err-found : goal.returns-in_err-found
returns-in_err-found c =
    let a = c.args in
    rw (handed c.in_err-found.field-0.0 c.from_residual.ensures.1)
    (fits_refused (one_ring_ask a.file.now) (judged_numbered a.file.now) a.plan.now a.element a.room _ _ c.in_err-found.ensures)

pub overflow_mul-size : goal.overflow_mul-size
overflow_mul-size c = omega (arith, mul-le-mul c.requires.1 c.in_ok-found.ensures.ready.few)

pub overflow_add-head : goal.overflow_add-head
overflow_add-head c = omega (arith, mul-le-mul c.requires.1 c.in_ok-found.ensures.ready.few, c.requires.0)

pub returns-then-room-head : goal.returns-then-room-head
returns-then-room-head c =
    let a = c.args in
    let F = c.in_ok-found.ensures in
    rw c.from.ensures
    (fits_short (one_ring_ask a.file.now) (judged_numbered a.file.now) a.plan.now a.element a.room _ F
    (omega (arith, ap (λ (n : ℕ). a.head + a.size * n) F.ready.entries, c.if-room-head.true)))

pub returns : goal.returns
returns c =
    let a = c.args in
    let F = c.in_ok-found.ensures in
    fits_all (one_ring_ask a.file.now) (judged_numbered a.file.now) a.plan.now a.element a.room _ F
    (omega (arith, ap (λ (n : ℕ). a.head + a.size * n) F.ready.entries, c.if-room-head.false))
