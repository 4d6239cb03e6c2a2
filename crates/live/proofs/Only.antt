-- Only one answer fits each call of a live table.
use mathlib.Core.Path.{refl, sym, ap, ◌∙◌}
use Rattle.std.specs.Prelude.{Ok, Err}
use Rattle.table.proofs.Reasons.{refused_not, same_refusal}
use Rattle.live.specs.Promises.{OneNew, OneAddition, OneRemoval}
use Rattle.live.proofs.State.{live_same}

pub new_only : OneNew
new_only M (Ok a) (Ok b) A B = ap Ok (live_same a b A.size B.size (A.made.done refl ∙ sym (B.made.done refl)))
new_only M (Ok a) (Err e) A B = refused_not _ e A.made.answers B.made.answers
new_only M (Err e) (Ok b) A B = refused_not _ e B.made.answers A.made.answers
new_only M (Err e) (Err g) A B = same_refusal _ e g A.made.answers B.made.answers

pub addition_only : OneAddition
addition_only l row m n (Ok j) (Ok k) A B =
    let c = A.added.done refl in
    let d = B.added.done refl in
    (live_same m n A.size B.size (c.1 ∙ sym d.1), ap Ok (c.0 ∙ sym d.0))
addition_only l row m n (Ok j) (Err e) A B = refused_not _ e A.added.answers B.added.answers
addition_only l row m n (Err e) (Ok k) A B = refused_not _ e B.added.answers A.added.answers
addition_only l row m n (Err e) (Err g) A B = (A.same ∙ sym B.same, same_refusal _ e g A.added.answers B.added.answers)

pub removal_only : OneRemoval
removal_only l k m n (Ok _) (Ok _) A B =
    (live_same m n A.size B.size (A.removed.done refl ∙ sym (B.removed.done refl)), refl)
removal_only l k m n (Ok _) (Err e) A B = refused_not _ e A.removed.answers B.removed.answers
removal_only l k m n (Err e) (Ok _) A B = refused_not _ e B.removed.answers A.removed.answers
removal_only l k m n (Err e) (Err g) A B = (A.same ∙ sym B.same, same_refusal _ e g A.removed.answers B.removed.answers)
