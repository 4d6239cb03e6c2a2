-- `numbers::stretch` meets its contract.
use mathlib.Core.Path.{ap₂, ◌∙◌}
use Prim.Native.Nat.{ℕ, ◌-◌}
use native.Mathlib.Omega.{arith}
use borrow.Author.Rules.{rules}
use lib.Pow.{pow_mono}
use Rattle.numbers.specs.Word.{bit}
use Rattle.numbers.proofs.Word.{one_shl, stretch_none, stretch_pow}
use Rattle.numbers.proofs.stretch.Statement.{statement}
use Rattle.numbers.proofs.stretch.Tie as tie

returns : tie.Need-returns-then-b-a
returns c = stretch_none c.before.args.a c.before.args.b c.if-b-a.true

shl-result : tie.Need-overflow_shl-result
shl-result c = search rules

shl-result-2 : tie.Need-overflow_shl-result-2
shl-result-2 c = search rules

sub-result : tie.Need-overflow_sub-result
sub-result c =
    let a = c.before.args.a in
    let b = c.before.args.b in
    omega (arith, one_shl a (omega arith), one_shl b (omega arith), pow_mono {i = a} {j = b} (omega arith))

returns-2 : tie.Need-returns
returns-2 c =
    let a = c.before.args.a in
    let b = c.before.args.b in
    record {
      bits = λ k.
          ap₂ (λ (x y : ℕ). bit (x - y) k) (one_shl b (omega arith)) (one_shl a (omega arith)) ∙ stretch_pow k a b (omega arith);
    }

pub stretch_spec : {M : Type 1} → statement M
stretch_spec = tie.close (tie.spec returns shl-result shl-result-2 sub-result returns-2)
