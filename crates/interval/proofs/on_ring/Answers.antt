-- `on_ring` goes by the ring.
use Rattle.std.proofs.Common.{◌≡◌, Bool, true, false, not, ◌&&◌, cond, bit_and, eqb, refl, ap, ◌∙◌, arith}
use Rattle.numbers.specs.Finite.{only}
use Rattle.numbers.specs.Word.{bit}
use Rattle.numbers.proofs.Word.{bit_and_lem}
use Rattle.loads.proofs.Words.{bit_xor_lem}
use Rattle.interval.proofs.on_ring.Goals as goal

-- a row is in neither word, in one, or in both
low : (r u : Bool) → cond (r && u) (not r) r ≡ (r && eqb (only u 1) 0)
unfolding only
low true true = refl
low true false = refl
low false u = refl

high : (r u : Bool) → (r && u) ≡ (r && eqb (only u 1) 1)
unfolding only
high true true = refl
high true false = refl
high false u = refl

pub returns-then-d-eq0 : goal.returns-then-d-eq0
returns-then-d-eq0 c i =
    let a = c.args in
    rw c.if-d-eq0.true (
    bit_xor_lem a.rows (bit_and a.rows a.upper) i
    ∙ ap (λ (b : Bool). cond b (not (bit a.rows i)) (bit a.rows i)) (bit_and_lem a.rows a.upper i)
    ∙ low (bit a.rows i) (bit a.upper i)
    )

pub returns : goal.returns
returns c i =
    let a = c.args in
    let e : a.d ≡ 1 = omega (arith, c.requires, c.if-d-eq0.false) in
    rw e (bit_and_lem a.rows a.upper i ∙ high (bit a.rows i) (bit a.upper i))
