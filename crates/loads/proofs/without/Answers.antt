-- `without` clears a bit, or leaves the word as it is.
use Rattle.std.proofs.Common.{◌≡◌, Bool, true, false, not, ◌&&◌, cond, ℕ, ◌*◌, ◌%◌, ◌^◌, eqb, refl, ap, ◌∙◌}
use native.Mathlib.Decide.{ℕ_discrete}
use borrow.Author.Tests.{eq-eqb, ne_eqb}
use Rattle.numbers.specs.Word.{bit}
use Rattle.loads.proofs.Words.{bit_xor_lem, bit_first, bit_odd, bit_even}
use Rattle.loads.proofs.without.Goals as goal

and_on : (b : Bool) → b ≡ (b && true)
and_on true = refl
and_on false = refl

pub returns-then-w-i-eq1 : goal.returns-then-w-i-eq1
returns-then-w-i-eq1 c j =
    let a = c.args in
    bit_xor_lem a.w (1 * 2 ^ a.i % 2 ^ 64) j ∙ ap (λ (q : Bool). cond q (not (bit a.w j)) (bit a.w j)) (bit_first a.i j c.requires)
    ∙ go a.w a.i (bit_odd a.w a.i c.if-w-i-eq1.true) (ℕ_discrete j a.i)
  where
    go : (w i : ℕ) → bit w i ≡ true → Dec (j ≡ i) → cond (eqb j i) (not (bit w j)) (bit w j) ≡ (bit w j && not (eqb j i))
    go w i e (yes q) = rw (eq-eqb j i q, ap (bit w) q ∙ e)
    go w i e (no q) = rw (ne_eqb j i q) (and_on (bit w j))

pub returns : goal.returns
returns c j =
    let a = c.args in
    go a.w a.i (bit_even a.w a.i c.if-w-i-eq1.false) (ℕ_discrete j a.i)
  where
    go : (w i : ℕ) → bit w i ≡ false → Dec (j ≡ i) → bit w j ≡ (bit w j && not (eqb j i))
    go w i e (yes q) = rw (eq-eqb j i q, ap (bit w) q ∙ e)
    go w i e (no q) = rw (ne_eqb j i q) (and_on (bit w j))
