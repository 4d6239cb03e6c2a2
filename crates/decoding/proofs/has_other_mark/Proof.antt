-- `decoding::has_other_mark` meets its contract.
use native.Mathlib.Omega.{arith}
use Rattle.numbers.proofs.Truth.{decides_yes, decides_no}
use borrow.Author.Rules.{rules}
use Rattle.decoding.proofs.has_other_mark.Statement.{statement}
use Rattle.decoding.proofs.has_other_mark.Tie as tie

returns : tie.Need-returns-then-file-lt-HEADER
returns c = decides_no (λ w. let z : ⊥ = omega (arith, w.0, c.if-file-lt-HEADER.true) in z)

is-plain-requires : tie.Need-is_plain-requires
is-plain-requires c κs = search rules

returns-2 : tie.Need-returns-then-is_plain
returns-2 c = decides_no (λ w. w.1 (c.is_plain.ensures.holds c.if-is_plain.true))

returns-3 : tie.Need-returns
returns-3 c =
    let z = c in
    decides_yes (z.if-file-lt-HEADER.false, c.is_plain.ensures.fails c.if-is_plain.false)

pub has_other_mark_spec : {M : Type 1} → statement M
has_other_mark_spec = tie.close (tie.spec returns is-plain-requires returns-2 returns-3)
