-- fault: each check is the first that applies.
use Rattle.std.proofs.Common.{arith}
use Rattle.maker.proofs.Finding.{no_element, a_bad_word, a_short_plan, no_fault}
use Rattle.maker.proofs.fault.Goals as goal

pub returns-then-element-eq0 : goal.returns-then-element-eq0
returns-then-element-eq0 c = λ t plan m w h L. rw c.from.ensures
    (no_element t plan c.args.element (λ q. let z : ⊥ = omega (arith, c.if-element-eq0.true, q.0) in z))

pub returns-then-element-elements : goal.returns-then-element-elements
returns-then-element-elements c = λ t plan m w h L. rw c.from-then-element-elements.ensures
    (no_element t plan c.args.element (λ q. let z : ⊥ = omega (arith, m, c.if-element-elements.true, q.1) in z))

pub returns-then-slot-hyper : goal.returns-then-slot-hyper
returns-then-slot-hyper c = λ t plan m w h L.
    rw (c.at.ensures.0, c.at.ensures.1)
    (a_bad_word t plan c.args.element (omega arith) (omega (arith, m)) c.args.slot (rw h at L) (omega (arith, h)))

pub returns-then-words-hyper : goal.returns-then-words-hyper
returns-then-words-hyper c = λ t plan m w h L. rw c.from-then-words-hyper.ensures
    (a_short_plan t plan c.args.element (omega arith) (omega (arith, m)) c.args.slot (rw h at L) (omega (arith, h)) (omega (arith, w, h)))

pub returns : goal.returns
returns c = λ t plan m w h L.
    no_fault t plan c.args.element (omega arith) (omega (arith, m)) c.args.slot (rw h at L) (omega (arith, h)) (omega (arith, w, h))
