-- end_of: all intervals are as long as L, or the next ends at the first multiple of a leading period.
use mathlib.Core.Path.{sym, ◌∙◌}
use native.Mathlib.Omega.{arith}
use Rattle.numbers.proofs.Truth.{of_true}
use Rattle.lags.proofs.Intervals.{end_le}
use Rattle.time.proofs.Even.{even_is, past_fits, past_is}
use Rattle.time.proofs.end_of.Statement.{statement}
use Rattle.time.proofs.end_of.Tie as tie

add-result : tie.Need-overflow_add-result
add-result c =
    let z = c in
    let P = z.requires.0 in
    record {
      fits = omega (
        arith,
        even_is P.3 (of_true (sym z.requires.1 ∙ c.if-even.true)) P.4,
        end_le P.3.sound P.1 P.4.in_range,
        P.3.short,
      );
    }

returns : tie.Need-returns-then-even
returns c t k h M B = let z = c in even_is M (of_true (sym z.requires.1 ∙ c.if-even.true)) B

multiple-past-requires : tie.Need-multiple_past-requires
multiple-past-requires c κs = let P = c.requires.0 in past_fits P.3 P.4

returns-2 : tie.Need-returns
returns-2 c t k h M B = past_is M B c.multiple_past.ensures

pub end_of_spec : {M : Type 1} → statement M
end_of_spec = tie.close (tie.spec add-result returns multiple-past-requires returns-2)
