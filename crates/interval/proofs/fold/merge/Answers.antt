-- `merge` toggles the rows that differ, where they are in `upper`.
use Rattle.std.proofs.Common.{◌≡◌, Bool, true, false, not, ◌&&◌, cond, bit_and, bit_xor, refl, ap, ◌∙◌}
use Rattle.numbers.specs.Word.{bit}
use Rattle.numbers.proofs.Word.{bit_and_lem, bit_xor_lem}
use Rattle.interval.proofs.fold.merge.Goals as goal

toggled : (l h u : Bool) → cond l (not (cond l (not h) h && u)) (cond l (not h) h && u) ≡ cond u h l
toggled true true true = refl
toggled true true false = refl
toggled true false true = refl
toggled true false false = refl
toggled false true true = refl
toggled false true false = refl
toggled false false true = refl
toggled false false false = refl

pub returns : goal.returns
returns c i =
    let a = c.args in
    bit_xor_lem a.low (bit_and (bit_xor a.low a.high) a.upper) i
    ∙ ap (λ (q : Bool). cond (bit a.low i) (not q) q)
    (bit_and_lem (bit_xor a.low a.high) a.upper i ∙ ap (λ (p : Bool). p && bit a.upper i) (bit_xor_lem a.low a.high i))
    ∙ toggled (bit a.low i) (bit a.high i) (bit a.upper i)
