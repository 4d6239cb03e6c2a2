-- `decoding::is_labelled` meets its contract.
use mathlib.Core.Path.{sym, ◌∙◌}
use native.Mathlib.Omega.{arith}
use Rattle.numbers.proofs.Truth.{decides_yes, decides_no, denied, granted}
use borrow.Author.Rules.{rules}
use Rattle.decoding.proofs.is_labelled.Statement.{statement}
use Rattle.decoding.proofs.is_labelled.Tie as tie

returns : tie.Need-returns-then-file-lt-HEADER
returns c = decides_no (λ w. let z : ⊥ = omega (arith, w.0, c.if-file-lt-HEADER.true) in z)

is-plain-requires : tie.Need-is_plain-requires
is-plain-requires c κs = search rules

returns-2 : tie.Need-returns-then-not-is_plain
returns-2 c = decides_no (λ w. denied c.is_plain.ensures c.if-not-is_plain.true w.1)

version-of-requires : tie.Need-version_of-requires
version-of-requires c κs = search rules

returns-3 : tie.Need-returns-then-version_of-eq-VERSION_2
returns-3 c =
    let z = c in
    decides_yes (
      z.if-file-lt-HEADER.false,
      granted z.is_plain.ensures z.if-not-is_plain.false,
      sym c.version_of.ensures ∙ c.if-version_of-eq-VERSION_2.true,
    )

returns-4 : tie.Need-returns
returns-4 c = decides_no (λ w. c.if-version_of-eq-VERSION_2.false (c.version_of.ensures ∙ w.2))

pub is_labelled_spec : {M : Type 1} → statement M
is_labelled_spec =
    tie.close
    (tie.spec returns is-plain-requires returns-2 version-of-requires returns-3 returns-4)
