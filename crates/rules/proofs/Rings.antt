-- #112: whatever its mark, a file's table has one ring or two.
use mathlib.Core.List.{List}
use mathlib.Core.Bool.{Bool, true, false, cond}
use Prim.Native.Nat.{ℕ, ◌≤◌}
use lib.Dec.{eqb, lit≤}
use Rattle.numbers.specs.Lists.{at}
use Rattle.rules.specs.Bounds.{max_rings}
use Rattle.rules.specs.TableFile.{rings_of}

few : (b : Bool) → cond b max_rings 1 ≤ max_rings
few true = lit≤ tt
few false = lit≤ tt

some : (b : Bool) → 1 ≤ cond b max_rings 1
some true = lit≤ tt
some false = lit≤ tt

pub rings_few : (m : List ℕ) → rings_of m ≤ max_rings
unfolding rings_of
rings_few m = few (eqb (at m 2) 0x32)

pub rings_some : (m : List ℕ) → 1 ≤ rings_of m
unfolding rings_of
rings_some m = some (eqb (at m 2) 0x32)
