-- head_in: each check is the first that applies.
use Rattle.std.proofs.Common.{arith, refl, sym, ◌∙◌}
use Rattle.std.proofs.lemmas.Result.{err_from_is_err_and}
use Rattle.numbers.proofs.Truth.{denied, granted}
use Rattle.rules.proofs.Answers.{applied, passed}
use Rattle.lists.proofs.head_in.Goals as goal

pub returns-then-file-lt-BYTES-clause-answers : goal.returns-then-file-lt-BYTES-clause-answers
returns-then-file-lt-BYTES-clause-answers c = applied _ _ 1 0 c.if-file-lt-BYTES.true refl refl

pub returns-then-not-begins-clause-answers : goal.returns-then-not-begins-clause-answers
returns-then-not-begins-clause-answers c =
    passed _ _ 2 0 (λ l. let z : ⊥ = omega arith in z)
    (applied _ _ 2 0 (denied c.begins.ensures c.if-not-begins.true) refl refl)

pub returns-then-read16-ne-VERSION-clause-answers : goal.returns-then-read16-ne-VERSION-clause-answers
returns-then-read16-ne-VERSION-clause-answers c =
    passed _ _ 3 0 (λ l. let z : ⊥ = omega arith in z)
    (passed _ _ 3 0 (λ h. h (granted c.begins.ensures c.if-not-begins.false))
    (applied _ _ 3 0 (λ e. c.if-read16-ne-VERSION.true (c.read16.ensures ∙ e)) refl refl))

pub returns-then-file-ne0-clause-answers : goal.returns-then-file-ne0-clause-answers
returns-then-file-ne0-clause-answers c =
    passed _ _ 6 0 (λ l. let z : ⊥ = omega arith in z)
    (passed _ _ 6 0 (λ h. h (granted c.begins.ensures c.if-not-begins.false))
    (passed _ _ 6 0 (λ h. h (sym c.read16.ensures ∙ c.if-read16-ne-VERSION.false)) (applied _ _ 6 0 c.if-file-ne0.true refl refl)))

pub returns-in_err-bounds_fault-clause-answers : goal.returns-in_err-bounds_fault-clause-answers
returns-in_err-bounds_fault-clause-answers c =
    let e = err_from_is_err_and c.from_residual.result c.from_residual.ensures.1 in
    let o = c.of-head.ensures in
    rw (e.1, e.2)
    (passed _ _ _ 0 (λ l. let z : ⊥ = omega arith in z)
    (passed _ _ _ 0 (λ h. h (granted c.begins.ensures c.if-not-begins.false))
    (passed _ _ _ 0 (λ h. h (sym c.read16.ensures ∙ c.if-read16-ne-VERSION.false))
    (passed _ _ _ 0 (λ h. h c.if-file-ne0.false) (rw (o.element, o.hyper) at c.in_err-bounds_fault.ensures)))))

pub returns-clause-answers : goal.returns-clause-answers
returns-clause-answers c =
    let o = c.of-head.ensures in
    passed _ _ 0 0 (λ l. let z : ⊥ = omega arith in z)
    (passed _ _ 0 0 (λ h. h (granted c.begins.ensures c.if-not-begins.false))
    (passed _ _ 0 0 (λ h. h (sym c.read16.ensures ∙ c.if-read16-ne-VERSION.false))
    (passed _ _ 0 0 (λ h. h c.if-file-ne0.false) (rw (o.element, o.hyper) at c.in_ok-bounds_fault.ensures))))
