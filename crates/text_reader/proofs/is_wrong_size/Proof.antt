-- `text_reader::is_wrong_size` meets its contract.
use native.Mathlib.Omega.{arith}
use borrow.Author.Tests.{ltb-true, ltb-false}
use Rattle.numbers.proofs.Truth.{decides_yes}
use Rattle.text_reader.proofs.is_wrong_size.Statement.{statement}
use Rattle.text_reader.proofs.is_wrong_size.Tie as tie

returns : tie.Need-returns-then-elements-lt2
returns c = decides_yes (λ w. let z : ⊥ = omega (arith, w.0) in z)

returns-2 : tie.Need-returns
returns-2 c =
    let x = c.args.elements in
    record {
      holds = λ e w. let z : ⊥ = omega (arith, ltb-true 32 x e, w.1) in z;
      fails = λ e h. h (omega arith, omega (arith, ltb-false 32 x e));
    }

pub is_wrong_size_spec : {M : Type 1} → statement M
is_wrong_size_spec = tie.close (tie.spec returns returns-2)
