-- less: both fit an i64, and so does the difference.
use mathlib.Core.Path.{◌≡◌, ap₂, ◌∙◌}
use lib.IntN.{pos, ◌-ℤ◌}
use Prim.Native.Nat.{ℕ, ◌<◌, ◌^◌}
use mir.Syntax.{w64}
use mir.Val.{SFits, to_z}
use mir.ValLaws.{to_z_pos, to_z-of_z}
use borrow.Author.Rules.{rules}
use Rattle.numbers.proofs.Signed.{diff_mag}
use Rattle.numbers.proofs.less.Statement.{statement}
use Rattle.numbers.proofs.less.Tie as tie

cast-result : tie.Need-overflow_cast-result
cast-result c = search rules

cast-result-2 : tie.Need-overflow_cast-result-2
cast-result-2 c = search rules

-- both fit, so the casts change nothing
as_pos : (x y : ℕ) → x < 2 ^ 63 → y < 2 ^ 63 → to_z w64 x -ℤ to_z w64 y ≡ pos x -ℤ pos y
as_pos x y p q = ap₂ ◌-ℤ◌ (to_z_pos w64 x p) (to_z_pos w64 y q)

fits : (x y : ℕ) → x < 2 ^ 63 → y < 2 ^ 63 → SFits w64 (to_z w64 x -ℤ to_z w64 y)
fits x y p q = rw (as_pos x y p q) (record { sfits = diff_mag x y _ p q })

sub-result : tie.Need-overflow_sub-result
sub-result c = search (rules, fits)

returns : tie.Need-returns
returns c =
    to_z-of_z w64 (to_z w64 c.args.a -ℤ to_z w64 c.args.b) (sub-result c)
    ∙ as_pos c.args.a c.args.b c.requires.0 c.requires.1

pub less_spec : {M : Type 1} → statement M
less_spec = tie.close (tie.spec cast-result cast-result-2 sub-result returns)
